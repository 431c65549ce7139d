-- What holds of a consumer by its place holds in every run.
--
-- `IsKnown` joins what the files of places keep at an entry, and `known_in_runs` carries it through a run, with what
-- each run has anyway (`IsBefore`). `places_by` reads `Places` off that, place by place. The work is in whose exchange
-- is open: who neither waits nor reads has none (`away_own`). Who has the turn waits for the head of one
-- (`awaits_turn`), and of one without a head it was shown none (`unheard`).
use Rattle.std.{proofs.Common.{◌≡◌, ℕ, Bool, true, false, Option, Some, None, refl, ap, sym, ◌∙◌, subst}, specs.Prelude.{is_some}}
use Rattle.hc_text.proofs.Basics.{never_true, not_some as none_some, same_some as same_row}
use Rattle.hc_effects.proofs.Vocabulary.{Response, route_of, Place, Endings, Entry, Contents, is_open, entry_of, OfRuns, Turns, Owners, IsAwaiting, IsPast, IsReading, Places, IsAway, ReadsPast, own_open, reads, hi_of, end_in, Tables, Exchange, Consumer, Sound, tables, first_tables, after_denied, route, place, by}
use Rattle.hc_model.specs.Owners as owners
use Rattle.hc_model.specs.Places.{IsIdle, AwaitsTurn, IsUnheard}
use Rattle.hc_laws.proofs.{InRuns.{turned_in_runs}, PlacesKept.{AreOwn, IsOwnTurn, own_kept, turn_direct, bound_turn}, PlacesRead.{AreRead, read_kept}, PlacesEnded.{AreEnded, ended_kept}, PlacesGiven.{ArePast, past_kept}, PlacesShown.{AreReaders, IsReader, readers_kept}, PlacesStand.{Stands, AreStanding, standing_kept}, PlacesReported.{AreReported, reported_kept, reported_denied, down_reported}, ReadEnds.{bounded}, ReadJoined.{fallback}, RunFacts.{in_runs_with}, SoundRuns.{carried}, TurnFacts.{IsTaken}, Unreached.{unreached}}
use Rattle.hc_effects.proofs.{Basics.{false_true}, Beside.{IsBeside, is_cached_place}, Bounded.{IsBounded}, ShownStays.{IsFallback}, PastApart.{bound_direct}, Step.{step_of}}

-- OVER A RUN

pub record IsKnown (t : Tables) : Type 0 where
  pub owned : AreOwn t
  pub reads : AreRead t
  pub readers : AreReaders t
  pub past : ArePast t
  pub reported : AreReported t
  pub ended : AreEnded t
  pub standing : AreStanding t

known_begun : (contents : Contents) → IsKnown (first_tables contents)
known_begun contents = record {
  owned = record { direct = λ c x k row at. absurd (none_some k row); turn = λ c x k row at. absurd (none_some k row) };
  reads = record { read = λ x w row on headed none. absurd (none_some w row) };
  readers = record { shown = λ c k row on. absurd (none_some k row) };
  past = record { given = λ c x k w row at exchange_row. absurd (none_some k row); undue = λ c x k w row at exchange_row on. absurd (none_some k row) };
  ended = record { past = λ c x k w row. absurd (none_some k row) };
  standing = record { stands = λ c k row. absurd (none_some k row) };
  reported = record { due = λ c k row. absurd (none_some k row); down = λ c k row. absurd (none_some k row); received = λ x w row. absurd (none_some w row) };
}

known_denied : (t : Tables) (e : Entry) → IsKnown t → IsKnown (after_denied t e)
known_denied t e known = record {
  owned = record {
    direct = λ c x k row at. let i = known.owned.direct c x k row at in
        record { its = record { w = i.its.w; row = i.its.row; for_it = i.its.for_it; own = i.its.own }; unjoined = i.unjoined };
    turn = λ c x k row at. let i = known.owned.turn c x k row at in
        record { its = record { w = i.its.w; row = i.its.row; for_it = i.its.for_it; own = i.its.own }; is_open = i.is_open };
  };
  reads = record { read = λ x w row on headed none. let r = known.reads.read x w row on headed none in record { k = r.k; row = r.row; place_is = r.place_is } };
  readers = record { shown = known.readers.shown };
  past = record { given = known.past.given; undue = known.past.undue };
  reported = reported_denied t e known.reported;
  ended = record { past = known.ended.past };
  standing = record { stands = known.standing.stands };
}

-- what each run gives the tables before
record IsBefore (t : Tables) : Type 0 where
  fallback : IsFallback t
  turns : Turns t
  bounded : IsBounded t

before : OfRuns IsBefore
before limits contents h may run =
    record {
      fallback = fallback limits contents h may run;
      turns = (turned_in_runs limits contents h may run).turns;
      bounded =
          bounded limits contents h may run;
    }

pub known_in_runs : OfRuns IsKnown
known_in_runs = in_runs_with (λ limits t. IsKnown t) (λ limits t. IsBefore t) before
    (λ limits contents may. known_begun contents)
    (λ limits t e later known. known_denied t e known)
    (λ limits t now flaw ev s b known.
    let c = s.before in
    let owned = own_kept (step_of limits t now flaw c.is_sound c.is_owned ev s.going) b.fallback known.owned in
    let taken : IsTaken limits t (entry_of limits t now ev flaw) = record { owed = s.owed; not_denied = s.real.taken } in
    record {
      owned = owned;
      reads = read_kept (step_of limits t now flaw c.is_sound c.is_owned ev s.going) b.fallback known.owned s.sound_then known.reads;
      readers = readers_kept (step_of limits t now flaw c.is_sound c.is_owned ev s.going) b.fallback known.owned b.turns known.readers taken;
      past = past_kept (step_of limits t now flaw c.is_sound c.is_owned ev s.going) b.fallback b.bounded known.owned known.past s.real.stand owned;
      reported = reported_kept t (entry_of limits t now ev flaw) known.reported;
      ended = ended_kept (step_of limits t now flaw c.is_sound c.is_owned ev s.going) c.is_measured b.fallback b.bounded known.owned known.ended owned;
      standing = standing_kept (step_of limits t now flaw c.is_sound c.is_owned ev s.going) b.fallback known.owned b.turns known.readers known.standing taken;
    })

-- BY PLACE

module _ (t : Tables) (s : Sound t) (o : Owners t) (a : IsFallback t) (b : IsBounded t) (turns : Turns t) (beside : IsBeside t) (known : IsKnown t) where
  -- it neither waits for a head nor reads
  abbrev Elsewhere : Place → Type 0
  Elsewhere place.Line = Unit {0}
  Elsewhere (place.Passed r kept) = Unit {0}
  Elsewhere (place.Down why) = Unit {0}
  Elsewhere place.Over = Unit {0}
  Elsewhere _ = ⊥

  awaiting_not : (x : ℕ) (w : Exchange) (p : Place) → Elsewhere p → IsAwaiting x w p → ⊥
  awaiting_not x w p away (owners.direct way is) = subst Elsewhere is away
  awaiting_not x w p away (owners.turn way is) = subst Elsewhere is away
  awaiting_not x w p away (owners.hole r lo hi how way aim is) = subst Elsewhere is away

  reading_not : (x : ℕ) (p : Place) → Elsewhere p → IsReading x p → ⊥
  reading_not x p away (owners.direct is) = subst Elsewhere is away
  reading_not x p away (owners.bound r lo hi how is) = subst Elsewhere is away

  module _ (c : ℕ) (k : Consumer) (row : t.consumer c ≡ Some k) where
    -- its own exchange that waits for its head is one for which it stands there
    awaiting : (x : ℕ) (w : Exchange) → k.own ≡ Some x → t.exchange x ≡ Some w → w.is_open ≡ true → w.head ≡ None → IsAwaiting x w k.place
    awaiting x w own exchange_row on bare =
        let waits = o.waiting x w exchange_row on bare in
        let mine : w.c ≡ c = o.one w.c c x waits.k k waits.row row waits.own own in
        subst (λ (q : Consumer). IsAwaiting x w q.place) (same_row (t.consumer c) waits.k k (sym (ap t.consumer mine) ∙ waits.row) row) waits.at

    away_not : Elsewhere k.place → (x : ℕ) (w : Exchange) → k.own ≡ Some x → t.exchange x ≡ Some w → w.is_open ≡ true → ⊥
    away_not away x w own exchange_row on = by_head w.head refl
      where
        by_head : (q : Option Response) → w.head ≡ q → ⊥
        by_head None bare = awaiting_not x w k.place away (awaiting x w own exchange_row on bare)
        by_head (Some response) is = reading_not x k.place away (o.reading c x k w row own exchange_row on (ap (λ (q : Option Response). is_some q) is))

    away_own : Elsewhere k.place → own_open t k ≡ None
    away_own away = by_own k.own refl
      where
        by_open : (x : ℕ) (z : Option Exchange) (b : Bool) → k.own ≡ Some x → t.exchange x ≡ z → is_open z ≡ b → own_open t k ≡ None
        by_open x None true own exchange_row on = absurd (false_true on)
        by_open x (Some w) true own exchange_row on = absurd (away_not away x w own exchange_row on)
        by_open x z false own exchange_row off = rw (own, exchange_row, off) refl

        by_own : (q : Option ℕ) → k.own ≡ q → own_open t k ≡ None
        by_own None own = rw own refl
        by_own (Some x) own = by_open x (t.exchange x) (is_open (t.exchange x)) own refl refl

    idle_by : k.shown ≡ false → reads k.place ≡ false → IsIdle k
    idle_by off unread = record { unshown = off; ungiven = b.fresh c k row off; undue = o.idle_due c k row unread }

    unshown_by : (IsReader k.place → ⊥) → k.shown ≡ false
    unshown_by never = never_true k.shown (λ on. never (known.readers.shown c k row on))

    away_by : Elsewhere k.place → (IsReader k.place → ⊥) → reads k.place ≡ false → IsAway t k
    away_by away never unread = record { idle = idle_by (unshown_by never) unread; unowned = away_own away }

    turn_route : (x : ℕ) (w : Exchange) (p : Place) → p ≡ place.Turn x → IsAwaiting x w p → route_of w.need ≡ route.Turn
    turn_route x w p at (owners.direct way is) = absurd (turn_direct x x (sym at ∙ is))
    turn_route x w p at (owners.turn way is) = way
    turn_route x w p at (owners.hole r lo hi how way aim is) = absurd (bound_turn r lo hi how x (sym is ∙ at))

    direct_route : (x : ℕ) (w : Exchange) (p : Place) → p ≡ place.Direct x → IsAwaiting x w p → route_of w.need ≡ route.Direct
    direct_route x w p at (owners.direct way is) = way
    direct_route x w p at (owners.turn way is) = absurd (turn_direct x x (sym is ∙ at))
    direct_route x w p at (owners.hole r lo hi how way aim is) = absurd (bound_direct r lo hi how x (sym is ∙ at))

    turn_reading : (x : ℕ) (p : Place) → p ≡ place.Turn x → IsReading x p → ⊥
    turn_reading x p at (owners.direct is) = turn_direct x x (sym at ∙ is)
    turn_reading x p at (owners.bound r lo hi how is) = bound_turn r lo hi how x (sym is ∙ at)

    awaits_turn : (x : ℕ) → k.place ≡ place.Turn x → AwaitsTurn t c x k
    awaits_turn x at = by_head i.its.w.head refl
      where
        i : IsOwnTurn t c x k
        i = known.owned.turn c x k row at

        by_head : (q : Option Response) → i.its.w.head ≡ q → AwaitsTurn t c x k
        by_head None bare = record {
          w = i.its.w;
          row = i.its.row;
          for_it = i.its.for_it;
          own = i.its.own;
          by_turn = turn_route x i.its.w k.place at (awaiting x i.its.w i.its.own i.its.row i.is_open bare);
          is_open = i.is_open;
          headless = bare;
          idle = idle_by (unshown_by (λ r. subst IsReader at r)) (ap reads at);
        }
        by_head (Some response) is =
            absurd (turn_reading x k.place at (o.reading c x k i.its.w row i.its.own i.its.row i.is_open (ap (λ (q : Option Response). is_some q) is)))

    -- of an exchange without a head it was shown none, and that has no body
    unheard : (x : ℕ) (w : Exchange) → t.exchange x ≡ Some w → w.head ≡ None → k.place ≡ place.Direct x → IsUnheard w k
    unheard x w exchange_row bare at = by_past (o.past c x k row at off)
      where
        bare_not : (q : Exchange) → t.exchange x ≡ Some q → is_some q.head ≡ true → ⊥
        bare_not q there headed =
            false_true (sym (ap (λ (z : Option Response). is_some z)
            (ap (λ (z : Exchange). z.head) (same_row (t.exchange x) q w there exchange_row) ∙ bare)) ∙ headed)

        off : k.shown ≡ false
        off = never_true k.shown (λ on. let h = a.apart.headed c x k row at on in bare_not h.w h.row h.headed)

        by_past : IsPast t x k → IsUnheard w k
        by_past (owners.answered q there headed) = absurd (bare_not q there headed)
        by_past (owners.waits q mine there on empty) = record {
          past = direct_route x w k.place at
              (awaiting x w mine exchange_row (sym (ap (λ (z : Exchange). z.is_open) (same_row (t.exchange x) q w there exchange_row)) ∙ on) bare);
          is_open = sym (ap (λ (z : Exchange). z.is_open) (same_row (t.exchange x) q w there exchange_row)) ∙ on;
          unshown = off;
          empty = (s.waits.headless x w exchange_row bare).0;
          undue = known.past.undue c x k w row at exchange_row (sym (ap (λ (z : Exchange). z.is_open) (same_row (t.exchange x) q w there exchange_row)) ∙ on);
        }

    reads_past : (x : ℕ) → k.place ≡ place.Direct x → ReadsPast t c x k
    reads_past x at =
        let i = known.owned.direct c x k row at in
        record {
          w = i.its.w;
          row = i.its.row;
          for_it = i.its.for_it;
          own = i.its.own;
          unjoined = i.unjoined;
          unfounded = a.apart.unfounded c x k row at;
          given = known.past.given c x k i.its.w row at i.its.row;
          unheard = λ bare. unheard x i.its.w i.its.row bare at;
          undue =
              λ on. known.past.undue c x k i.its.w row at i.its.row on;
        }

  stands_at : (c : ℕ) (k : Consumer) → t.consumer c ≡ Some k → (p : Place) → k.place ≡ p → Stands p k.own k.request
  stands_at c k row p at = subst (λ z. Stands z k.own k.request) at (known.standing.stands c k row)

  pub places_by : Places t
  places_by = record {
    line = λ c k row at. away_by c k row (subst Elsewhere (sym at) tt) (λ r. subst IsReader at r) (ap reads at);
    passed = λ c r kept k row at. away_by c k row (subst Elsewhere (sym at) tt) (λ r. subst IsReader at r) (ap reads at);
    turn = λ c x k row at. awaits_turn c k row x at;
    direct = λ c x k row at. reads_past c k row x at;
    down = λ c why k row at. away_by c k row (subst Elsewhere (sym at) tt) (λ r. subst IsReader at r) (ap reads at);
    over = λ c k row at. away_own c k row (subst Elsewhere (sym at) tt);
    ungiven = b.fresh;
    turn_queues = λ c x k row at. let q = turns.queued c x k row at in record { cached = q.0; asks = q.1 };
    passed_queues = λ c r kept k row at. let q = turns.passed c r kept k row at in record { cached = q.cached; asks = q.asks };
    bound_cached = λ c r lo hi how k row at. beside.cached c k row (ap is_cached_place at);
    direct_asks = λ c x k row at. stands_at c k row (place.Direct x) at;
    down_asks = λ c why k row at. stands_at c k row (place.Down why) at;
    first_asks = λ c r lo y hi k row at. stands_at c k row (place.Bound r lo hi (by.FirstHole y)) at;
    line_unowned = λ c k row at. stands_at c k row place.Line at;
    reported = known.reported.due;
    down_reported = λ c why k row at. down_reported t known.reported c why k row at;
    received = known.reported.received;
    read = known.reads.read;
    promised_most = λ x n w row is. b.promise x n w row is;
    ended = a.ended;
  }

pub places_in_runs : OfRuns Places
places_in_runs limits contents h may run =
    let c = carried limits contents h may run in
    places_by (tables contents h) c.is_sound c.is_owned (fallback limits contents h may run) (bounded limits contents h may run)
    (turned_in_runs limits contents h may run).turns c.beside (known_in_runs limits contents h may run)

pub endings_in_runs : OfRuns Endings
endings_in_runs limits contents h may run = record {
  past = λ c x k w row at exchange_row off none.
      ap (hi_of (tables contents h)) at ∙ (ap end_in exchange_row ∙ (known_in_runs limits contents h may run).ended.past c x k w row at exchange_row off none);
  unreached = (unreached limits contents h may run).lacks;
}
