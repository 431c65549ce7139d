-- A log follows its wire through each call.
--
-- A change of one connection keeps its number, so the others are found as before, and no two have one number. A new
-- connection has a number that no other has, since the wire hands out such alone. So stage and bytes change at one
-- number alone (`stage_changed`, `stage_new`, `sent_changed`); each kind of call is read off that.
use Rattle.std.{proofs.{Common.{◌≡◌, ◌⊎◌, ℕ, List, [], ◌∷◌, ◌++◌, Bool, true, false, Option, Some, None, refl, ap, sym, ◌∙◌, subst, arith}, lemmas.Bool.Decides.{nat_tests}}, specs.{Prelude.{nat_eq, find, length, if◌then◌else◌, option_map}, Option.{option_or}}}
use Rattle.hc_wire.specs.{Events.{Stage, Unseen, Open, Closed, Fresh, with_stage, closed_of, reading_of, ended_of, stages_after, IsOfOpen}, Logs.{Log, Taker, Reports, fresh, stage_of, is_numbered, stage_from, sent_from, stage_in, sent_in, changed_at, over, taking, reading, shut, with_call, with_dialled, with_sent, with_reading, with_closed}, declared.event.WireEvent.{WireEvent}}
use Rattle.hc_wire.specs.declared.event.WireEvent.TheVariants as event
use Rattle.hc_proxy.specs.Logging.{Follows, AreApart}
use Rattle.hc_proxy.proofs.Closings.{reported_on}

-- ONE CONNECTION CHANGES

abbrev pub KeepsNumber : (Taker → Taker) → Type 0
KeepsNumber change = (c : Taker) → (change c).k ≡ c.k

abbrev FoundSo : (Taker → Taker) → ℕ → ℕ → List Taker → Type 0
FoundSo change k j cs = find (is_numbered j)
    (changed_at k change cs) ≡ (if nat_eq k j then option_map change (find (is_numbered j) cs) else find (is_numbered j) cs)

found_first : (change : Taker → Taker) → KeepsNumber change → (k j : ℕ) (c : Taker) (cs : List Taker) → FoundSo change k j cs → (a b : Bool) →
    nat_eq c.k k ≡ a → nat_eq c.k j ≡ b → FoundSo change k j (c ∷ cs)
found_first change keeps k j c cs rest true true x y =
    let same : nat_eq k j ≡ true = grind (arith, nat_tests) in
    let moved : nat_eq (change c).k j ≡ true = ap (λ n. nat_eq n j) (keeps c) ∙ y in
    rw (x, y, same, moved) refl
found_first change keeps k j c cs rest true false x y =
    let other : nat_eq k j ≡ false = grind (arith, nat_tests) in
    let moved : nat_eq (change c).k j ≡ false = ap (λ n. nat_eq n j) (keeps c) ∙ y in
    rw (x, y, other, moved) refl
found_first change keeps k j c cs rest false true x y =
    let other : nat_eq k j ≡ false = grind (arith, nat_tests) in
    rw (x, y, other) refl
found_first change keeps k j c cs rest false false x y = rw (x, y) rest

pub found : (change : Taker → Taker) → KeepsNumber change → (k j : ℕ) (cs : List Taker) → FoundSo change k j cs
found change keeps k j [] = none (nat_eq k j)
  where
    none : (b : Bool) → None ≡ (if b then option_map change None else None)
    none true = refl
    none false = refl
found change keeps k j (c ∷ cs) = found_first change keeps k j c cs (found change keeps k j cs) (nat_eq c.k k) (nat_eq c.k j) refl refl

-- NUMBERS

still_none : (change : Taker → Taker) → KeepsNumber change → (k j : ℕ) (cs : List Taker) → find (is_numbered j) cs ≡ None →
    find (is_numbered j) (changed_at k change cs) ≡ None
still_none change keeps k j cs none = found change keeps k j cs ∙ by_test (nat_eq k j)
  where
    by_test : (b : Bool) → (if b then option_map change (find (is_numbered j) cs) else find (is_numbered j) cs) ≡ None
    by_test true = ap (option_map change) none
    by_test false = none

apart_first : (change : Taker → Taker) → KeepsNumber change → (k : ℕ) (c : Taker) (cs : List Taker) → AreApart (c ∷ cs) →
    AreApart (changed_at k change cs) → (b : Bool) → AreApart (if b then change c ∷ cs else c ∷ changed_at k change cs)
apart_first change keeps k c cs apart rest true = (ap (λ n. find (is_numbered n) cs) (keeps c) ∙ apart.0, apart.1)
apart_first change keeps k c cs apart rest false = (still_none change keeps k c.k cs apart.0, rest)

pub apart_changed : (change : Taker → Taker) → KeepsNumber change → (k : ℕ) (cs : List Taker) → AreApart cs → AreApart (changed_at k change cs)
apart_changed change keeps k [] apart = tt
apart_changed change keeps k (c ∷ cs) apart = apart_first change keeps k c cs apart (apart_changed change keeps k cs apart.1) (nat_eq c.k k)

-- a new one stands last
found_more : (j : ℕ) (new : Taker) (cs : List Taker) →
    find (is_numbered j) (cs ++ new ∷ []) ≡ option_or (find (is_numbered j) cs) (if nat_eq new.k j then Some new else None)
found_more j new [] = refl
found_more j new (c ∷ cs) = by_test (nat_eq c.k j) (found_more j new cs)
  where
    by_test : (b : Bool) → find (is_numbered j) (cs ++ new ∷ []) ≡ option_or (find (is_numbered j) cs) (if nat_eq new.k j then Some new else None) →
        (if b then Some c else find (is_numbered j) (cs ++ new ∷ [])) ≡ option_or (if b then Some c else find (is_numbered j) cs)
        (if nat_eq new.k j then Some new else None)
    by_test true rest = refl
    by_test false rest = rest

-- of a number that none has
pub found_new : (k j : ℕ) (cs : List Taker) → find (is_numbered k) cs ≡ None →
    find (is_numbered j) (cs ++ fresh k ∷ []) ≡ (if nat_eq j k then Some (fresh k) else find (is_numbered j) cs)
found_new k j cs none = by_test (nat_eq j k) refl
  where
    by_test : (b : Bool) → nat_eq j k ≡ b → find (is_numbered j) (cs ++ fresh k ∷ []) ≡ (if b then Some (fresh k) else find (is_numbered j) cs)
    by_test true is =
        let same : j ≡ k = grind (arith, nat_tests) in
        let here : nat_eq k j ≡ true = grind (arith, nat_tests) in
        let gone : find (is_numbered j) cs ≡ None = ap (λ n. find (is_numbered n) cs) same ∙ none in
        found_more j (fresh k) cs ∙ rw (gone, here) refl
    by_test false is =
        let other : nat_eq k j ≡ false = grind (arith, nat_tests) in
        found_more j (fresh k) cs ∙ rw other (or_none (find (is_numbered j) cs))
      where
        or_none : (o : Option Taker) → option_or o None ≡ o
        or_none None = refl
        or_none (Some c) = refl

new_first : (k : ℕ) (c : Taker) (cs : List Taker) → AreApart (c ∷ cs) → (find (is_numbered k) cs ≡ None → AreApart (cs ++ fresh k ∷ [])) → (b : Bool) →
    nat_eq c.k k ≡ b → (if b then Some c else find (is_numbered k) cs) ≡ None → AreApart ((c ∷ cs) ++ fresh k ∷ [])
new_first k c cs apart rest true is h = absurd (let never : Some c ≡ None = h in cc)
new_first k c cs apart rest false is h = (found_new k c.k cs h ∙ rw is apart.0, rest h)

pub apart_new : (k : ℕ) (cs : List Taker) → AreApart cs → find (is_numbered k) cs ≡ None → AreApart (cs ++ fresh k ∷ [])
apart_new k [] apart none = (refl, tt)
apart_new k (c ∷ cs) apart none = new_first k c cs apart (λ h. apart_new k cs apart.1 h) (nat_eq c.k k) refl none

-- STAGES AND BYTES SENT

-- one that wasn't handed out isn't there
pub unseen_none : (k : ℕ) (cs : List Taker) → stage_in cs k ≡ Unseen → find (is_numbered k) cs ≡ None
unseen_none k cs h = by_found (find (is_numbered k) cs) refl
  where
    by_stage : (live reads ended : Bool) → (if live then Open reads ended else Closed) ≡ Unseen → ⊥
    by_stage true reads ended g = let never : Open reads ended ≡ Unseen = g in cc
    by_stage false reads ended g = let never : Closed ≡ Unseen = g in cc

    by_found : (o : Option Taker) → find (is_numbered k) cs ≡ o → find (is_numbered k) cs ≡ None
    by_found None is = is
    by_found (Some c) is = absurd (by_stage c.live c.reads c.ended (sym (ap stage_from is) ∙ h))

-- what a change makes of the stage of its connection
abbrev pub Restages : (Taker → Taker) → (Stage → Stage) → Type 0
Restages change stage = ((c : Taker) → stage_of (change c) ≡ stage (stage_of c)) × (stage Unseen ≡ Unseen)

pub stage_changed : (change : Taker → Taker) → KeepsNumber change → (stage : Stage → Stage) → Restages change stage → (k j : ℕ) (cs : List Taker) →
    stage_in (changed_at k change cs) j ≡ with_stage k (stage (stage_in cs k)) (stage_in cs) j
stage_changed change keeps stage does k j cs = ap stage_from (found change keeps k j cs) ∙ by_test (nat_eq k j) (nat_eq j k) refl refl
  where
    by_found : (o : Option Taker) → stage_from (option_map change o) ≡ stage (stage_from o)
    by_found None = sym does.1
    by_found (Some c) = does.0 c

    by_test : (a b : Bool) → nat_eq k j ≡ a → nat_eq j k ≡ b →
        stage_from (if a then option_map change (find (is_numbered j) cs) else find (is_numbered j) cs) ≡ (if b then stage (stage_in cs k) else stage_in cs j)
    by_test true true x y =
        let same : j ≡ k = grind (arith, nat_tests) in
        by_found (find (is_numbered j) cs) ∙ ap (λ n. stage (stage_in cs n)) same
    by_test true false x y = absurd (let never : true ≡ false = (let one : nat_eq j k ≡ true = grind (arith, nat_tests) in sym one ∙ y) in cc)
    by_test false true x y = absurd (let never : true ≡ false = (let one : nat_eq k j ≡ true = grind (arith, nat_tests) in sym one ∙ x) in cc)
    by_test false false x y = refl

pub stage_new : (k j : ℕ) (cs : List Taker) → find (is_numbered k) cs ≡ None → stage_in (cs ++ fresh k ∷ []) j ≡ with_stage k Fresh (stage_in cs) j
stage_new k j cs none = ap stage_from (found_new k j cs none) ∙ by_test (nat_eq j k)
  where
    by_test : (b : Bool) → stage_from (if b then Some (fresh k) else find (is_numbered j) cs) ≡ (if b then Fresh else stage_in cs j)
    by_test true = refl
    by_test false = refl

-- a change that sends nothing
pub sent_changed : (change : Taker → Taker) → KeepsNumber change → ((c : Taker) → (change c).sent ≡ c.sent) → (k j : ℕ) (cs : List Taker) → sent_in
    (changed_at k change cs) j ≡ sent_in cs j
sent_changed change keeps same k j cs = ap sent_from (found change keeps k j cs) ∙ by_test (nat_eq k j) (find (is_numbered j) cs)
  where
    by_test : (b : Bool) (o : Option Taker) → sent_from (if b then option_map change o else o) ≡ sent_from o
    by_test true None = refl
    by_test true (Some c) = same c
    by_test false o = refl

pub sent_new : (k j : ℕ) (cs : List Taker) → find (is_numbered k) cs ≡ None → sent_in (cs ++ fresh k ∷ []) j ≡ sent_in cs j
sent_new k j cs none = ap sent_from (found_new k j cs none) ∙ by_test (nat_eq j k) refl
  where
    by_test : (b : Bool) → nat_eq j k ≡ b → sent_from (if b then Some (fresh k) else find (is_numbered j) cs) ≡ sent_in cs j
    by_test true is =
        let same : j ≡ k = grind (arith, nat_tests) in
        sym (ap sent_from (ap (λ n. find (is_numbered n) cs) same ∙ none))
    by_test false is = refl

-- THE CALLS

module _ (reported reported' : Option Log) (stages stages' : ℕ → Stage) (log : Log) (f : Follows reported stages log) where
  -- one connection is changed
  changes : (change : Taker → Taker) → KeepsNumber change → (stage : Stage → Stage) → Restages change stage → (k : ℕ) (log' : Log) →
      log'.takers ≡ changed_at k change log.takers
      → (reported' ≡ None) ⊎ (reported' ≡ Some log') → ((j : ℕ) → stages' j ≡ with_stage k (stage (stages k)) stages j) → Follows reported' stages' log'
  changes change keeps stage does k log' takers is stands = record {
    reported_is = is;
    stands = λ j. stands j ∙ (by_test (nat_eq j k) j ∙ (sym (stage_changed change keeps stage does k j log.takers) ∙ sym (ap (λ cs. stage_in cs j) takers)));
    apart = subst AreApart (sym takers) (apart_changed change keeps k log.takers f.apart);
  }
    where
      by_test : (b : Bool) (j : ℕ) → (if b then stage (stages k) else stages j) ≡ (if b then stage (stage_in log.takers k) else stage_in log.takers j)
      by_test true j = ap stage (f.stands k)
      by_test false j = f.stands j

  pub follows_closed : (k : ℕ) → Reports reported reported' (with_closed k) → ((j : ℕ) → stages' j ≡ with_stage k (closed_of (stages k)) stages j) →
      Follows reported' stages' (with_closed k log)
  follows_closed k reports stands =
      changes shut (λ c. refl) closed_of (shuts, refl) k (with_closed k log) refl
      (reported_on reported reported' log (with_closed k) f.reported_is reports) stands
    where
      by_live : (b reads ended : Bool) → Closed ≡ closed_of (if b then Open reads ended else Closed)
      by_live true reads ended = refl
      by_live false reads ended = refl

      shuts : (c : Taker) → stage_of (shut c) ≡ closed_of (stage_of c)
      shuts c = by_live c.live c.reads c.ended

  pub follows_reading : (k : ℕ) (on : Bool) → Reports reported reported' (with_reading k on) →
      ((j : ℕ) → stages' j ≡ with_stage k (reading_of on (stages k)) stages j) → Follows reported' stages' (with_reading k on log)
  follows_reading k on reports stands =
      changes (reading on) (λ c. refl) (reading_of on) (reads_on, refl) k (with_reading k on log) refl
      (reported_on reported reported' log (with_reading k on) f.reported_is reports) stands
    where
      by_live : (b reads ended : Bool) → (if b then Open on ended else Closed) ≡ reading_of on (if b then Open reads ended else Closed)
      by_live true reads ended = refl
      by_live false reads ended = refl

      reads_on : (c : Taker) → stage_of (reading on c) ≡ reading_of on (stage_of c)
      reads_on c = by_live c.live c.reads c.ended

  pub follows_sent : (k : ℕ) (bytes : List ℕ) (short : Bool) → Reports reported reported' (with_sent k bytes short) → ((j : ℕ) → stages' j ≡ stages j) →
      Follows reported' stages' (with_sent k bytes short log)
  follows_sent k bytes short reports stands =
      changes (taking bytes short (length log.calls)) (λ c. refl) (λ s. s) (λ c. refl, refl) k (with_sent k bytes short log) refl
      (reported_on reported reported' log (with_sent k bytes short) f.reported_is reports)
      (λ j. stands j ∙ by_test (nat_eq j k) j refl)
    where
      by_test : (b : Bool) (j : ℕ) → nat_eq j k ≡ b → stages j ≡ (if b then stages k else stages j)
      by_test true j is = let same : j ≡ k = grind (arith, nat_tests) in ap stages same
      by_test false j is = refl

  -- a new one
  news : (k : ℕ) (log' : Log) → stages k ≡ Unseen → log'.takers ≡ log.takers ++ fresh k ∷ [] → (reported' ≡ None) ⊎ (reported' ≡ Some log') →
      ((j : ℕ) → stages' j ≡ with_stage k Fresh stages j) → Follows reported' stages' log'
  news k log' new takers is stands = record {
    reported_is = is;
    stands = λ j. stands j ∙ (by_test (nat_eq j k) j ∙ (sym (stage_new k j log.takers none) ∙ sym (ap (λ cs. stage_in cs j) takers)));
    apart = subst AreApart (sym takers) (apart_new k log.takers f.apart none);
  }
    where
      none : find (is_numbered k) log.takers ≡ None
      none = unseen_none k log.takers (sym (f.stands k) ∙ new)

      by_test : (b : Bool) (j : ℕ) → (if b then Fresh else stages j) ≡ (if b then Fresh else stage_in log.takers j)
      by_test true j = refl
      by_test false j = f.stands j

  pub follows_dialled : (k : ℕ) → stages k ≡ Unseen → Reports reported reported' (with_dialled k) → ((j : ℕ) → stages' j ≡ with_stage k Fresh stages j) →
      Follows reported' stages' (with_dialled k log)
  follows_dialled k new reports stands = news k (with_dialled k log) new refl (reported_on reported reported' log (with_dialled k) f.reported_is reports) stands

  same_takers : (log' : Log) → log'.takers ≡ log.takers → (reported' ≡ None) ⊎ (reported' ≡ Some log') → ((j : ℕ) → stages' j ≡ stages j) →
      Follows reported' stages' log'
  same_takers log' takers is stands = record {
    reported_is = is;
    stands = λ j. stands j ∙ (f.stands j ∙ sym (ap (λ cs. stage_in cs j) takers));
    apart = subst AreApart (sym takers) f.apart;
  }

  pub follows_call : (wait : Bool) (moment : ℕ) (what : WireEvent) (bytes : List ℕ) → IsOfOpen what stages →
      Reports reported reported' (with_call wait moment what bytes) → ((j : ℕ) → stages' j ≡ stages_after what stages j) →
      Follows reported' stages' (with_call wait moment what bytes log)
  follows_call wait moment (event.Accepted k) bytes new reports stands =
      news k (with_call wait moment (event.Accepted k) bytes log) new refl (reported_on reported reported' log _ f.reported_is reports) stands
  follows_call wait moment (event.Got k n) bytes of_open reports stands =
      same_takers (with_call wait moment (event.Got k n) bytes log) refl (reported_on reported reported' log _ f.reported_is reports) stands
  follows_call wait moment (event.Ended k) bytes of_open reports stands =
      changes over (λ c. refl) ended_of (ends, refl) k (with_call wait moment (event.Ended k) bytes log) refl
      (reported_on reported reported' log _ f.reported_is reports) stands
    where
      by_live : (b reads ended : Bool) → (if b then Open reads true else Closed) ≡ ended_of (if b then Open reads ended else Closed)
      by_live true reads ended = refl
      by_live false reads ended = refl

      ends : (c : Taker) → stage_of (over c) ≡ ended_of (stage_of c)
      ends c = by_live c.live c.reads c.ended
  follows_call wait moment (event.Broke k) bytes of_open reports stands =
      same_takers (with_call wait moment (event.Broke k) bytes log) refl (reported_on reported reported' log _ f.reported_is reports) stands
  follows_call wait moment (event.Room k) bytes of_open reports stands =
      same_takers (with_call wait moment (event.Room k) bytes log) refl (reported_on reported reported' log _ f.reported_is reports) stands
  follows_call wait moment event.Quiet bytes of_open reports stands =
      same_takers (with_call wait moment event.Quiet bytes log) refl (reported_on reported reported' log _ f.reported_is reports) stands
