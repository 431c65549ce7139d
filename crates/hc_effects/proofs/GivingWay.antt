-- What gives way, told by a loop: while there is no room, the first idle one goes.
--
-- The loop takes the first idle one as long as the sum is too large. It takes as many as the definitions count
-- (`counts`), from the front (`takes`). Where all of them aren't enough none gives way (`never`), and else some do, by
-- induction over the list (`enough`). At an event that gives each kind of room: `makes_room`, `has_no_room`,
-- `has_too_large` and `writes_nothing`.
use Rattle.std.{proofs.{Common.{◌≡◌, inl, inr, ℕ, suc, ◌+◌, ◌-◌, ◌<◌, ◌≤◌, List, [], ◌∷◌, ◌++◌, length, true, false, Option, Some, None, refl, ap, sym, ◌∙◌, subst, arith}, lemmas.{Bool.Decides.{nat_tests}, List.Sums.{sum_by-cons}}}, specs.{Prelude.{nat_le, map, take}, List.{sum_by}, Option.{option_map}}}
use Rattle.hc_text.proofs.Basics.{bool_cases}
use Rattle.hc_effects.proofs.Vocabulary.{Event, gives_way, room_of, grown_by, is_too_large, Limits, Write, Entry, entry_without_acts, Tables, weight, weights, idle, write_in, room_by, room_for, first_idle, room}
use Rattle.hc_rules.specs.Rooms as rooms
use Rattle.hc_model.specs.Evictions.{GivesWay, MakesRoom, SomeGiveWay, HasNoRoom, HasTooLarge, WritesNothing}
use Rattle.hc_model.specs.Evictions as evictions

-- HOW MANY

module _ (weight : ℕ → ℕ) (most : ℕ) where
  fits_at_once : (sum : ℕ) (ws : List ℕ) → sum ≤ most → gives_way most sum ws ≡ Some 0
  fits_at_once sum [] le = let test : nat_le sum most ≡ true = grind (arith, nat_tests) in rw test refl
  fits_at_once sum (w ∷ ws) le = let test : nat_le sum most ≡ true = grind (arith, nat_tests) in rw test refl

  pub counts : (sum : ℕ) (xs gone : List ℕ) → GivesWay weight most sum xs gone → gives_way most sum (map weight xs) ≡ Some (length gone)
  counts _ _ _ (evictions.fits sum xs le) = fits_at_once sum (map weight xs) le
  counts _ _ _ (evictions.goes sum r xs gone past rest) =
      let test : nat_le sum most ≡ false = grind (arith, nat_tests) in
      rw test (ap (option_map suc) (counts (sum - weight r) xs gone rest))

  pub takes : (sum : ℕ) (xs gone : List ℕ) → GivesWay weight most sum xs gone → take (length gone) xs ≡ gone
  takes _ _ _ (evictions.fits sum xs le) = refl
  takes _ _ _ (evictions.goes sum r xs gone past rest) = ap (λ ys. r ∷ ys) (takes (sum - weight r) xs gone rest)

  -- it passes the most even without all of them
  pub never : (sum : ℕ) (xs : List ℕ) → most + sum_by weight xs < sum → gives_way most sum (map weight xs) ≡ None
  never sum [] past = let test : nat_le sum most ≡ false = grind (arith, nat_tests) in rw test refl
  never sum (r ∷ xs) past =
      let all : sum_by weight (r ∷ xs) ≡ weight r + sum_by weight xs = sum_by-cons weight r xs in
      let test : nat_le sum most ≡ false = grind (arith, nat_tests) in
      rw test (ap (option_map suc) (never (sum - weight r) xs (omega arith)))

  -- and else enough give way
  pub enough : (sum : ℕ) (xs : List ℕ) → sum ≤ most + sum_by weight xs → (gone : List ℕ) × GivesWay weight most sum xs gone
  enough sum [] le = ([], evictions.fits sum [] (omega arith))
  enough sum (r ∷ xs) le = elim (bool_cases (nat_le sum most)) [
    | inl small ↦ ([], evictions.fits sum (r ∷ xs) (grind (arith, nat_tests)))
    | inr past ↦
        let all : sum_by weight (r ∷ xs) ≡ weight r + sum_by weight xs = sum_by-cons weight r xs in
        let less : most < sum = grind (arith, nat_tests) in
        let rest = enough (sum - weight r) xs (omega arith) in
        (r ∷ rest.0, evictions.goes sum r xs rest.0 less rest.1)
  ]

  -- A LOOP

  -- once `done` went, in this order, what gives way still are those that give way to what is left
  pub data Went (sum : ℕ) (xs : List ℕ) : (done left : List ℕ) (rest : ℕ) → Type 0 where
    begins : Went sum xs [] xs sum
    more : (r rest : ℕ) (done left : List ℕ) → most < rest → Went sum xs done (r ∷ left) rest → Went sum xs (done ++ (r ∷ [])) left (rest - weight r)

  joined : (done gone : List ℕ) (r : ℕ) → (done ++ (r ∷ [])) ++ gone ≡ done ++ (r ∷ gone)
  joined [] gone r = refl
  joined (q ∷ done) gone r = ap (λ ys. q ∷ ys) (joined done gone r)

  went_then : (sum : ℕ) (xs done left gone : List ℕ) (rest : ℕ) → Went sum xs done left rest → GivesWay weight most rest left gone →
      GivesWay weight most sum xs (done ++ gone)
  went_then sum xs _ _ gone _ begins gives = gives
  went_then sum xs _ _ gone _ (more r rest done left past went) gives =
      subst (GivesWay weight most sum xs) (sym (joined done gone r))
      (went_then sum xs done (r ∷ left) (r ∷ gone) rest went (evictions.goes rest r left gone past gives))

  nothing_more : (done : List ℕ) → done ++ [] ≡ done
  nothing_more [] = refl
  nothing_more (q ∷ done) = ap (λ ys. q ∷ ys) (nothing_more done)

  -- those went that give way, once the rest fits
  pub went : (sum : ℕ) (xs done left : List ℕ) (rest : ℕ) → Went sum xs done left rest → rest ≤ most → GivesWay weight most sum xs done
  went sum xs done left rest w le = subst (GivesWay weight most sum xs) (nothing_more done) (went_then sum xs done left [] rest w (evictions.fits rest left le))

-- AT AN EVENT

module _ (limits : Limits) (t : Tables) (now : ℕ) (event : Event) where
  abbrev e : Entry
  e = entry_without_acts now event

  room_is : (w : Write) → write_in t e event ≡ Some w → room_for limits t now event ≡ room_of limits (weights t e) w (map (weight t e) (idle t e))
  unfolding room_for
  room_is w is = ap (room_by limits t e) is

  small_room : (w : Write) (z : Option ℕ) → is_too_large limits w ≡ false →
      gives_way limits.max_total (weights t e + grown_by w) (map (weight t e) (idle t e)) ≡ z →
      room_of limits (weights t e) w (map (weight t e) (idle t e)) ≡ rooms.room_by z
  unfolding room_of
  small_room w z small gives = rw small (ap rooms.room_by gives)

  large_room : (w : Write) → is_too_large limits w ≡ true → room_of limits (weights t e) w (map (weight t e) (idle t e)) ≡ room.TooLarge
  unfolding room_of
  large_room w large = rw large refl

  nothing_room : write_in t e event ≡ None → room_for limits t now event ≡ room.After 0
  unfolding room_for
  nothing_room none = ap (room_by limits t e) none

  none_taken : (xs : List ℕ) → take 0 xs ≡ []
  none_taken xs = grind (arith, nat_tests)

pub makes_room : MakesRoom
makes_room limits t now event w gone is small gives =
    let e = entry_without_acts now event in
    let sum = weights t e + grown_by w in
    let room_now : room_for limits t now event ≡ room.After (length gone) = room_is limits t now event w is ∙
    small_room limits t now event w (Some (length gone)) small (counts (weight t e) limits.max_total sum (idle t e) gone gives) in
    (room_now, ap (first_idle t e) room_now ∙ takes (weight t e) limits.max_total sum (idle t e) gone gives)

pub has_no_room : HasNoRoom
has_no_room limits t now event w is small past =
    let e = entry_without_acts now event in
    let room_now : room_for limits t now event ≡ room.Full = room_is limits t now event w is ∙
    small_room limits t now event w None small (never (weight t e) limits.max_total (weights t e + grown_by w) (idle t e) past) in
    (room_now, ap (first_idle t e) room_now)

pub has_too_large : HasTooLarge
has_too_large limits t now event w is large =
    let room_now : room_for limits t now event ≡ room.TooLarge = room_is limits t now event w is ∙ large_room limits t now event w large in
    (room_now, ap (first_idle t (entry_without_acts now event)) room_now)

pub writes_nothing : WritesNothing
writes_nothing limits t now event none =
    let room_now = nothing_room limits t now event none in
    (room_now, ap (first_idle t (entry_without_acts now event)) room_now ∙ none_taken limits t now event (idle t (entry_without_acts now event)))

pub some_give_way : SomeGiveWay
some_give_way weight most sum xs le = enough weight most sum xs le
