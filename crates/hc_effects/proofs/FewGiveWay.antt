-- Few give way: a piece has at most twice what a slot weighs.
--
-- All that is idle weighs a slot at least (`heavy_all`). Where all fitted before, a write passes the limit by what it
-- adds: one slot, or two for a piece. Each that gives way takes one slot from that, so one or two are enough
-- (`one_gives`, `two_give`). An event writes no more (`few_of`), and the acts have as many evictions as give way
-- (`few_acts`). `few_give_way` joins these.
use Rattle.std.{proofs.{Common.{◌≡◌, inl, inr, ℕ, zero, suc, ◌+◌, ◌-◌, ◌≤◌, List, [], ◌∷◌, ◌++◌, length, Bool, true, false, Option, Some, None, refl, sym, ◌∙◌, subst, arith}, lemmas.Bool.Decides.{nat_tests}}, specs.{Prelude.{nat_le, map, filter, reverse, take, if◌then◌else◌}, Option.{option_map}}}
use Rattle.hc_text.proofs.Basics.{and_left, bool_cases, not_some as none_some, some_inj}
use Rattle.hc_effects.proofs.Vocabulary.{Act, Event, gives_way, room_of, grown_by, is_too_large, Limits, Room, Write, answer_acts, loss_acts, closing, Entry, entry_without_acts, Flaw, NoFlaw, count_evicted, IsSmallPiece, Move, acts_of, Tables, Representation, weight, weight_in, weights, idle, is_idle, stays_current, evicted, first_idle, room_for, room_by, write_in, act, room}
use Rattle.hc_rules.specs.Rooms as rooms
use Rattle.hc_model.specs.Laws.{FewGiveWay}
use Rattle.hc_effects.proofs.ActParts.{IsAnswer, IsSaid, answer_is, said_is}
use Rattle.hc_effects.proofs.ActParts as parts

-- HOW MANY

-- each weighs a slot at least
abbrev pub AreHeavy : List ℕ → Type 0
AreHeavy [] = Unit {0}
AreHeavy (w ∷ ws) = (32768 ≤ w) × AreHeavy ws

more_by : (o : Option ℕ) (n k : ℕ) → option_map suc o ≡ Some n → ((m : ℕ) → o ≡ Some m → m ≤ k) → n ≤ suc k
more_by None n k h few = absurd (none_some n h)
more_by (Some m) n k h few = let less : m ≤ k = few m refl in let is : suc m ≡ n = some_inj (suc m) n h in omega arith

none_more : (n k : ℕ) → Some 0 ≡ Some n → n ≤ k
none_more n k h = let is : 0 ≡ n = some_inj 0 n h in omega arith

-- two at most, where the sum passes what is left by two slots at most
none_gives : (most sum n : ℕ) (ws : List ℕ) → sum ≤ most → gives_way most sum ws ≡ Some n → n ≤ 0
none_gives most sum n [] le h = let test : nat_le sum most ≡ true = grind (arith, nat_tests) in none_more n 0 (rw test at h)
none_gives most sum n (w ∷ ws) le h = let test : nat_le sum most ≡ true = grind (arith, nat_tests) in none_more n 0 (rw test at h)

pub one_gives : (most sum n : ℕ) (ws : List ℕ) → AreHeavy ws → sum ≤ most + 32768 → gives_way most sum ws ≡ Some n → n ≤ 1
one_gives most sum n [] heavy le h = elim (bool_cases (nat_le sum most)) [
  | inl fits ↦ none_more n 1 (rw fits at h)
  | inr past ↦ absurd (none_some n (rw past at h))
]
one_gives most sum n (w ∷ ws) heavy le h = elim (bool_cases (nat_le sum most)) [
  | inl fits ↦ none_more n 1 (rw fits at h)
  | inr past ↦ more_by (gives_way most (sum - w) ws) n 0 (rw past at h) (λ m is.
      let slot : 32768 ≤ w = heavy.0 in none_gives most (sum - w) m ws (omega arith) is)
]

pub two_give : (most sum n : ℕ) (ws : List ℕ) → AreHeavy ws → sum ≤ most + 65536 → gives_way most sum ws ≡ Some n → n ≤ 2
two_give most sum n [] heavy le h = elim (bool_cases (nat_le sum most)) [
  | inl fits ↦ none_more n 2 (rw fits at h)
  | inr past ↦ absurd (none_some n (rw past at h))
]
two_give most sum n (w ∷ ws) heavy le h = elim (bool_cases (nat_le sum most)) [
  | inl fits ↦ none_more n 2 (rw fits at h)
  | inr past ↦ more_by (gives_way most (sum - w) ws) n 1 (rw past at h) (λ m is.
      let slot : 32768 ≤ w = heavy.0 in one_gives most (sum - w) m ws heavy.1 (omega arith) is)
]

-- WHAT IS IDLE IS HEAVY

module _ (t : Tables) (e : Entry) where
  heavy_row : (r : ℕ) (o : Option Representation) → is_idle t e r o ≡ true → 32768 ≤ weight_in t e r o
  heavy_row r None h = absurd (let no_one : false ≡ true = h in cc)
  heavy_row r (Some v) h =
      let stays : stays_current t e r v ≡ true = and_left (stays_current t e r v) _ h in
      let is : weight_in t e r (Some v) ≡ 32768 + v.size = rw stays refl in
      omega arith

  heavy_all : (rs : List ℕ) → AreHeavy (map (weight t e) (filter (λ r. is_idle t e r (t.representation r)) rs))
  heavy_all [] = tt
  heavy_all (r ∷ rs) = elim (bool_cases (is_idle t e r (t.representation r))) [
    | inl passes ↦ rw passes (heavy_row r (t.representation r) passes, heavy_all rs)
    | inr fails ↦ rw fails (heavy_all rs)
  ]

  heavy_idle : AreHeavy (map (weight t e) (idle t e))
  unfolding idle
  heavy_idle = heavy_all (reverse t.used)

-- ROOM

abbrev Few : Room → Type 0
Few (room.After count) = count ≤ 2
Few _ = Unit {0}

few_by : (o : Option ℕ) → ((n : ℕ) → o ≡ Some n → n ≤ 2) → Few (rooms.room_by o)
few_by None few = tt
few_by (Some n) few = few n refl

few_of : (limits : Limits) (used : ℕ) (w : Write) (ws : List ℕ) → AreHeavy ws → used ≤ limits.max_total → grown_by w ≤ 65536 → Few (room_of limits used w ws)
unfolding room_of
few_of limits used w ws heavy fits small = by_size (is_too_large limits w)
  where
    by_size : (b : Bool) → Few (if b then room.TooLarge else rooms.room_by (gives_way limits.max_total (used + grown_by w) ws))
    by_size true = tt
    by_size false = few_by _ (λ n is. two_give limits.max_total (used + grown_by w) n ws heavy (omega arith) is)

-- what an event writes is small
abbrev IsSmall : Option Write → Type 0
IsSmall None = Unit {0}
IsSmall (Some w) = grown_by w ≤ 65536

small_write : (t : Tables) (e : Entry) (ev : Event) → IsSmallPiece ev → IsSmall (write_in t e ev)
small_write t e ev small = grind (arith, nat_tests)

few_room : (limits : Limits) (t : Tables) (e : Entry) (o : Option Write) → weights t e ≤ limits.max_total → IsSmall o → Few (room_by limits t e o)
few_room limits t e None fits small = omega arith
few_room limits t e (Some w) fits small = few_of limits (weights t e) w (map (weight t e) (idle t e)) (heavy_idle t e) fits small

few_for : (limits : Limits) (t : Tables) (now : ℕ) (ev : Event) → weights t (entry_without_acts now ev) ≤ limits.max_total → IsSmallPiece ev →
    Few (room_for limits t now ev)
unfolding room_for
few_for limits t now ev fits small =
    few_room limits t (entry_without_acts now ev) (write_in t (entry_without_acts now ev) ev) fits (small_write t (entry_without_acts now ev) ev small)

length_take : (n : ℕ) (rs : List ℕ) → length (take n rs) ≤ n
length_take zero rs = omega arith
length_take (suc n) [] = omega arith
length_take (suc n) (r ∷ rs) = let rest : length (take n rs) ≤ n = length_take n rs in omega arith

first_few : (t : Tables) (e : Entry) (place : Room) → Few place → length (first_idle t e place) ≤ 2
first_few t e (room.After count) few = let taken : length (take count (idle t e)) ≤ count = length_take count (idle t e) in omega arith
first_few t e _ few = omega arith

-- COUNTED IN THE ACTS

count_closes : (ys : List ℕ) → count_evicted (map act.Close ys) ≡ 0
count_closes [] = refl
count_closes (y ∷ ys) = count_closes ys

count_closed : (ys : List ℕ) (flaw : Flaw) → count_evicted (map act.Close ys ++ loss_acts flaw) ≡ 0
count_closed [] NoFlaw = refl
count_closed [] _ = refl
count_closed (y ∷ ys) flaw = count_closed ys flaw

count_lost : (flaw : Flaw) (rest : List Act) → count_evicted (loss_acts flaw ++ rest) ≡ count_evicted rest
count_lost flaw rest = grind (arith, nat_tests)

count_all : (rs : List ℕ) (rest : List Act) → count_evicted rest ≡ 0 → count_evicted (map act.Evicted rs ++ rest) ≡ length rs
count_all [] rest none = none
count_all (r ∷ rs) rest none = let rec : count_evicted (map act.Evicted rs ++ rest) ≡ length rs = count_all rs rest none in omega arith

count_move : (c : ℕ) (m : Move) (rest : List Act) → count_evicted (acts_of c m ++ rest) ≡ count_evicted rest
count_move c m rest = grind (arith, nat_tests)

count_said : (t : Tables) (now : ℕ) (ev : Event) (flaw : Flaw) (acts rest : List Act) → IsSaid t now ev flaw acts →
    count_evicted (acts ++ rest) ≡ count_evicted rest
count_said t now ev flaw _ rest (parts.does c want k m at row is near) = count_move c m rest
count_said t now ev flaw _ rest _ = refl

few_acts : (limits : Limits) (t : Tables) (now : ℕ) (ev : Event) (flaw : Flaw) (acts : List Act) → IsAnswer limits t now ev flaw acts →
    length (evicted limits t now ev) ≤ 2 → count_evicted acts ≤ 2
few_acts limits t now ev flaw _ (parts.reported silent) few =
    let ys = closing t (record { now = now; event = ev; acts = answer_acts t now ev flaw ++ loss_acts flaw }) in
    let all = count_all (evicted limits t now ev) (loss_acts flaw ++ map act.Close ys) (count_lost flaw (map act.Close ys) ∙ count_closes ys) in
    subst (λ n. n ≤ 2) (sym all) few
few_acts limits t now ev flaw _ parts.asked few =
    let ys = closing t (record { now = now; event = ev; acts = answer_acts t now ev flaw ++ loss_acts flaw }) in
    subst (λ n. n ≤ 2) (sym (count_said t now ev flaw (answer_acts t now ev flaw) (map act.Close ys ++ loss_acts flaw) (said_is t now ev flaw) ∙
    count_closed ys flaw)) (omega arith)

pub few_give_way : FewGiveWay
few_give_way limits t now event flaw fits small =
    few_acts limits t now event flaw _ (answer_is limits t now event flaw)
    (first_few t (entry_without_acts now event) (room_for limits t now event) (few_for limits t now event fits small))
