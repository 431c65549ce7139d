-- A denied entry changes nothing that soundness speaks of.
--
-- Its rows are as before: only the moment and what is counted changes. So each word that soundness is made of says the
-- same of both tables: what is written, who is bound, what is about what, who writes alone (`written_same`,
-- `was_bound`, `was_exclusive_writer`). `denied_sound` puts all fields together by these; `denied_owners` and
-- `denied_measures` are short. Each law of runs has this half.
use Rattle.std.proofs.Common.{◌≡◌, ℕ, refl, sym, ◌∙◌}
use Rattle.hc_effects.proofs.Vocabulary.{Entry, Measures, Owners, IsPast, is_written, bound, Tables, Exchange, Representation, Consumer, Sound, IsBound, IsAbout, IsFirst, IsExclusiveWriter, IsServed, IsHad, IsGrowing, IsAlone, IsToBeShown, after_denied, BoundBy}
use Rattle.hc_model.specs.Owners as owners
use Rattle.hc_model.specs.Sound as sound

module _ (t : Tables) (e : Entry) where
  abbrev pub u : Tables
  u = after_denied t e

  pub written_same : (v : Representation) → is_written u v ≡ is_written t v
  unfolding is_written
  written_same v = refl

  bound_same : (r : ℕ) → bound u r ≡ bound t r
  unfolding bound
  bound_same r = refl

  pub was_bound : (r c : ℕ) (k : Consumer) → IsBound u r c k → IsBound t r c k
  was_bound r c k (sound.is_bound lo hi how row at) = sound.is_bound lo hi how row at

  is_bound : (r c : ℕ) (k : Consumer) → IsBound t r c k → IsBound u r c k
  is_bound r c k (sound.is_bound lo hi how row at) = sound.is_bound lo hi how row at

  was_about : (r x : ℕ) → IsAbout u r x → IsAbout t r x
  was_about r x (sound.headed w row on head fam there) = sound.headed w row on head fam there
  was_about r x (sound.asks w from to row on bare need aim) = sound.asks w from to row on bare need aim

  is_about : (r x : ℕ) → IsAbout t r x → IsAbout u r x
  is_about r x (sound.headed w row on head fam there) = sound.headed w row on head fam there
  is_about r x (sound.asks w from to row on bare need aim) = sound.asks w from to row on bare need aim

  pub was_first : (r c : ℕ) → IsFirst u r c → IsFirst t r c
  was_first r c (sound.first k lo hi how row at alone) = sound.first k lo hi how row at alone

  is_first : (r c : ℕ) → IsFirst t r c → IsFirst u r c
  is_first r c (sound.first k lo hi how row at alone) = sound.first k lo hi how row at alone

  has_exclusive_writer : (r c : ℕ) (v : Representation) → IsExclusiveWriter t r v c → IsExclusiveWriter u r v c
  has_exclusive_writer r c v (sound.first kept is) = sound.first kept (is_first r c is)
  has_exclusive_writer r c v (sound.alone lost is) = sound.alone lost is

  pub was_exclusive_writer : (r c : ℕ) (v : Representation) → IsExclusiveWriter u r v c → IsExclusiveWriter t r v c
  was_exclusive_writer r c v (sound.first kept is) = sound.first kept (was_first r c is)
  was_exclusive_writer r c v (sound.alone lost is) = sound.alone lost is

  is_served : (r c : ℕ) (v : Representation) (k : Consumer) → IsServed t r v c k → IsServed u r v c k
  is_served r c v k (sound.shares on) = sound.shares (written_same v ∙ on)
  is_served r c v k (sound.writes exclusive_writer) = sound.writes (has_exclusive_writer r c v exclusive_writer)
  is_served r c v k (sound.reads hi is covered) = sound.reads hi is covered

  is_had : (r x : ℕ) (v : Representation) → IsHad t r v x → IsHad u r v x
  is_had r x v (sound.shared on writer) = sound.shared (written_same v ∙ on) writer
  is_had r x v (sound.own c k reader own none exclusive_writer) = sound.own c k (is_bound r c k reader) own none (has_exclusive_writer r c v exclusive_writer)

  to_be_shown : (k : Consumer) (how : BoundBy) → IsToBeShown t k how → IsToBeShown u k how
  to_be_shown k _ sound.founded = sound.founded
  to_be_shown k _ (sound.joined y is) = sound.joined y is
  to_be_shown k _ (sound.waits y own bare) = sound.waits y own bare

  growing : (r x : ℕ) (v : Representation) → ((w : Exchange) × IsGrowing t r v x w) → (w : Exchange) × IsGrowing u r v x w
  growing r x v all = let g = all.1 in
      (all.0, record { row = g.row; family_is = g.family_is; headed = g.headed; front_is = g.front_is; whole = g.whole; promise = g.promise })

  goes_alone : (v : Representation) (k : Consumer) → IsAlone t v k → IsAlone u v k
  goes_alone v k a = record { x = a.x; w = a.w; own = a.own; row = a.row; covered = a.covered; ahead = a.ahead }

  pub denied_sound : Sound t → Sound u
  denied_sound s = record {
    numbered = record {
      lists = assumption;
      names = record { unfounded = s.numbered.names.unfounded; aims = s.numbered.names.aims; joined = s.numbered.names.joined };
      bound_to = λ r c k reader. s.numbered.bound_to r c k (was_bound r c k reader);
    };
    waits = record { fronts = s.waits.fronts; holes = s.waits.holes; headless = s.waits.headless };
    one_about = λ r x y a b. s.one_about r x y (was_about r x a) (was_about r y b);
    writes = record {
      one_first = λ r c d a b. s.writes.one_first r c d (was_first r c a) (was_first r d b);
      served = λ r c v k row reader none. is_served r c v k (s.writes.served r c v k row (was_bound r c k reader) none);
      had = λ r x v row about. is_had r x v (s.writes.had r x v row (was_about r x about));
      known_end = s.writes.known_end;
      own_about = λ r c x k reader own. is_about r x (s.writes.own_about r c x k (was_bound r c k reader) own);
      undue = λ r c v k row reader on. s.writes.undue r c v k row (was_bound r c k reader) (sym (written_same v) ∙ on);
      has_bound = λ r v row on none. s.writes.has_bound r v row (sym (written_same v) ∙ on) (sym (bound_same r) ∙ none);
    };
    rows = λ r v row. record {
      store = (s.rows r v row).store;
      growing = λ x on writer. growing r x v ((s.rows r v row).growing x (sym (written_same v) ∙ on) writer);
    };
    one_current = s.one_current;
    unshown = λ c r lo hi how k row at off. to_be_shown k how (s.unshown c r lo hi how k row at off);
    alone = λ r c v k row is reader none. goes_alone v k (s.alone r c v k row is (was_bound r c k reader) none);
  }

  still_past : (x : ℕ) (k : Consumer) → IsPast t x k → IsPast u x k
  still_past x k (owners.answered w row headed) = owners.answered w row headed
  still_past x k (owners.waits w own row opened bare) = owners.waits w own row opened bare

  pub denied_owners : Owners t → Owners u
  denied_owners o = record {
    opener = λ x w row. let p = o.opener x w row in record { k = p.k; row = p.row; key_is = p.key_is; method_is = p.method_is; plain = p.plain };
    there = o.there;
    one = o.one;
    apart = λ r x c v k row on writer also is. o.apart r x c v k row (sym (written_same v) ∙ on) writer also is;
    waiting = λ x w row on bare. let a = o.waiting x w row on bare in record { k = a.k; row = a.row; own = a.own; at = a.at };
    first_own = λ c r lo y hi k row at. let f = o.first_own c r lo y hi k row at in record { w = f.w; row = f.row; for_it = f.for_it };
    passed = o.passed;
    writers = o.writers;
    idle_due = o.idle_due;
    first_due = λ r c d v k z row kept first also none reader. o.first_due r c d v k z row kept (was_first r c first) also none (was_bound r d z reader);
    founders = o.founders;
    reading = o.reading;
    past = λ c x k row at off. still_past x k (o.past c x k row at off);
  }

  pub denied_measures : Measures t → Measures u
  denied_measures m = record { brings = m.brings; tight = m.tight; within = m.within; ends = m.ends }
