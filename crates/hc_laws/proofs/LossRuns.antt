-- What is held for the detached reader came of its own exchange, in every run.
--
-- That there is a tail, and that all ahead is there, is carried through runs (`tails_in_runs`, `ahead_in_runs`). From
-- the tail on the bytes are those that the exchange brought (`bytes_are`). A position that isn't stored is in the tail
-- where it is before the front, and then the stretch from it is held (`inside`). Past the front, and where no body
-- came, nothing is (`empty`). `next` joins these for `losses_in_runs`.
use Rattle.std.{proofs.{Common.{◌≡◌, ◌⊎◌, inl, inr, ℕ, zero, suc, ◌+◌, ◌-◌, ◌≤◌, ◌<◌, List, [], ◌∷◌, length, take, drop, true, Option, Some, None, refl, ap, sym, ◌∙◌, subst, arith}, Math.{ListN.{drop_of_length-le}, Seq.{drop-cons}}, lemmas.{List.{length-drop, length-take, take_all}, Bool.Decides.{nat_tests}}}, specs.Prelude.{◌==◌, is_some, slice_index, min, nat_eq, nat_lt}}
use Rattle.hc_text.proofs.Basics.{bool_cases, not_some as none_some, same_some as same_row, some_inj}
use Rattle.hc_sparse.specs.{Cells.{Cell, Cells, Covers}, Stretch.{bytes_from, goes_on, stretch, stretch_of}}
use Rattle.hc_effects.proofs.Vocabulary.{Response, BoundBy, is_number, Entry, Contents, base, front, OfRuns, Brings, HoldsOwn, cell_from, offset, Tables, Exchange, Representation, Consumer, Sound, IsBound, run_held_for, held_at, held_of_lost, run_of, tables, first_tables, after_denied, place}
use Rattle.hc_model.specs.Losses.{Losses, IsHeldFrom}
use Rattle.hc_model.specs.Sound as sound
use Rattle.hc_effects.proofs.{Basics.{false_true}, ExclusiveWriters.{eq-refl}, Step.{step_of}}
use Rattle.hc_laws.proofs.{BringsRuns.{brings_in_runs}, DueAhead.{IsAhead, AreAhead, ahead_kept}, RunFacts.{in_runs_with}, SoundRuns.{carried}, Tails.{AreTails, IsTail, tails_kept}}

-- OVER A RUN

tails_denied : (t : Tables) (e : Entry) → AreTails t → AreTails (after_denied t e)
tails_denied t e was = record { tail = by_reader }
  where
    by_reader : (r c x : ℕ) (v : Representation) (k : Consumer) (w : Exchange) → t.representation r ≡ Some v → v.alone ≡ Some c →
        IsBound (after_denied t e) r c k → k.own ≡ Some x → t.exchange x ≡ Some w → IsTail (after_denied t e) r v k x w
    by_reader r c x v k w there alone (sound.is_bound lo hi how row at) own w_row =
        let a = was.tail r c x v k w there alone (sound.is_bound lo hi how row at) own w_row in
        record { from = a.from; after_base = a.after_base; within = a.within; stored = a.stored; unstored = a.unstored; of_r = a.of_r }

tails_in_runs : OfRuns AreTails
tails_in_runs = in_runs_with (λ limits t. AreTails t) (λ limits t. Unit {0}) (λ limits contents h may run. tt)
    (λ limits contents may. record { tail = λ r c x v k w there alone reader own row. absurd (none_some w row) })
    (λ limits t e later was. tails_denied t e was)
    (λ limits t now flaw ev s all was. let c = s.before in
    tails_kept (step_of limits t now flaw c.is_sound c.is_owned ev s.going) c.is_measured c.beside s.real was s.sound_then)

ahead_denied : (t : Tables) (e : Entry) → AreAhead t → AreAhead (after_denied t e)
ahead_denied t e was = record { ahead = by_reader }
  where
    by_reader : (r c : ℕ) (v : Representation) (k : Consumer) → t.representation r ≡ Some v → v.alone ≡ Some c → IsBound (after_denied t e) r c k →
        IsAhead (after_denied t e) v k
    by_reader r c v k there alone (sound.is_bound lo hi how row at) =
        let a = was.ahead r c v k there alone (sound.is_bound lo hi how row at) in
        record { x = a.x; w = a.w; own = a.own; row = a.row; covered = a.covered }

ahead_in_runs : OfRuns AreAhead
ahead_in_runs = in_runs_with (λ limits t. AreAhead t) (λ limits t. Unit {0}) (λ limits contents h may run. tt)
    (λ limits contents may. record { ahead = λ r c v k there alone reader. unbound contents r c k reader })
    (λ limits t e later was. ahead_denied t e was)
    (λ limits t now flaw ev s all was. let c = s.before in
    ahead_kept (step_of limits t now flaw c.is_sound c.is_owned ev s.going) c.is_measured c.beside s.real was s.sound_then)
  where
    unbound : {A : Type 0} (contents : Contents) (r c : ℕ) (k : Consumer) → IsBound (first_tables contents) r c k → A
    unbound contents r c k (sound.is_bound lo hi how row at) = absurd (none_some k row)

-- ONE STRETCH

module _ (f : Cells) (x : ℕ) (w : Exchange) (from : ℕ) (low : base w ≤ from) (came : (q : ℕ) → from ≤ q → q < front w → f q ≡ Some (cell_from x w q))
    (only : (q : ℕ) (cell : Cell) → f q ≡ Some cell → cell.x ≡ x → q < front w) where
  past_end : (p n : ℕ) → front w ≤ p → bytes_from f x p n ≡ []
  past_end p zero past = refl
  past_end p (suc n) past = by_cell (f p) refl
    where
      by_cell : (o : Option Cell) → f p ≡ o → goes_on x o (bytes_from f x (p + 1) n) ≡ []
      by_cell None is = refl
      by_cell (Some cell) is = elim (bool_cases (cell.x == x)) [
        | inr off ↦ rw off refl
        | inl on ↦ let test : nat_eq cell.x x ≡ true = on in let same : cell.x ≡ x = grind (arith, nat_tests) in let lt : p < front w =
            only p cell is same in absurd (omega arith)
      ]

  -- the bytes of x from there on are those that it brought
  bytes_are : (n p : ℕ) → from ≤ p → bytes_from f x p n ≡ take n (drop (p - base w) w.body)
  bytes_are zero p ge = refl
  bytes_are (suc n) p ge = elim (bool_cases (nat_lt p (front w))) [
    | inr past ↦
        let over : front w ≤ p = grind (arith, nat_tests) in
        let none : drop (p - base w) w.body ≡ [] = drop_of_length-le w.body (omega arith) in
        past_end p (suc n) over ∙ sym (ap (take (suc n)) none)
    | inl on ↦
        let lt : p < front w = grind (arith, nat_tests) in
        let inside : p - base w < length w.body = omega arith in
        let next : p + 1 - base w ≡ suc (p - base w) = omega arith in
        let rest = bytes_are n (p + 1) (omega arith) in
        let first : bytes_from f x p (suc n) ≡ slice_index w.body (p - base w) ∷ bytes_from f x (p + 1) n =
        ap (λ o. goes_on x o (bytes_from f x (p + 1) n)) (came p ge lt) ∙ (let test = eq-refl x in rw test refl) in
        first ∙ (ap (λ b. slice_index w.body (p - base w) ∷ b) (rest ∙ ap (λ i. take n (drop i w.body)) next) ∙
        sym (ap (take (suc n)) (drop-cons w.body (p - base w) 0 inside)))
  ]

-- as many as there are, and no more
take_most : (n m : ℕ) (xs : List ℕ) → length xs ≤ m → take (min n m) xs ≡ take n xs
take_most n m xs le = elim (bool_cases (nat_lt m n)) [
  | inr few ↦ let under : n ≤ m = grind (arith, nat_tests) in let same : min n m ≡ n = omega arith in ap (λ i. take i xs) same
  | inl many ↦
      let over : m < n = grind (arith, nat_tests) in
      ap (λ i. take i xs) (omega arith) ∙ (take_all m xs le ∙ sym (take_all n xs (omega arith)))
]

drop_none : (n : ℕ) → drop {A = ℕ} n [] ≡ []
drop_none zero = refl
drop_none (suc n) = refl

take_none : (n : ℕ) → take {A = ℕ} n [] ≡ []
take_none zero = refl
take_none (suc n) = refl

run_some : (x o : ℕ) (bytes : List ℕ) → 0 < length bytes → run_of x o bytes ≡ Some (record { x = x; at = o; bytes = bytes })
run_some x o [] some = absurd (omega arith)
run_some x o (b ∷ bytes) some = refl

-- HELD

module _ (t : Tables) (s : Sound t) (brings : Brings t) (tails : AreTails t) (ahead_of : AreAhead t) where
  module _ (r c x lo : ℕ) (hi : Option ℕ) (how : BoundBy) (v : Representation) (k : Consumer) (w : Exchange) (there : t.representation r ≡ Some v)
      (is_alone : v.alone ≡ Some c) (row : t.consumer c ≡ Some k) (at : k.place ≡ place.Bound r lo hi how) (own : k.own ≡ Some x)
      (w_row : t.exchange x ≡ Some w) where
    reader : IsBound t r c k
    reader = sound.is_bound lo hi how row at

    tail : IsTail t r v k x w
    tail = tails.tail r c x v k w there is_alone reader own w_row

    lost : v.is_lost ≡ true
    lost = elim (bool_cases v.is_lost) [
      | inl is ↦ is
      | inr fresh ↦ absurd (none_some c (sym ((s.rows r v there).store.nobody_alone fresh) ∙ is_alone))
    ]

    came : (p : ℕ) → tail.from ≤ p → p < front w → v.body p ≡ Some (cell_from x w p)
    came p low under = by_head w.head refl
      where
        by_head : (q : Option Response) → w.head ≡ q → v.body p ≡ Some (cell_from x w p)
        by_head None bare =
            let after_base : base w ≤ tail.from = tail.after_base in
            let empty : length w.body ≡ 0 = ap (λ (b : List ℕ). length b) (s.waits.headless x w w_row bare).0 in
            absurd (omega arith)
        by_head (Some response) is =
            let after_base : base w ≤ tail.from = tail.after_base in
            brings.stands x p w v w_row (ap (λ (q : Option Response). is_some q) is) (ap t.representation (tail.of_r (omega arith)) ∙ there) (omega arith) under

    ahead : IsHeldFrom t v k x w tail.from
    ahead = record { within = tail.within; stored = tail.stored; unstored = tail.unstored; came = λ p le low under. came p low under }

    goes : IsAhead t v k
    goes = ahead_of.ahead r c v k there is_alone reader

    abbrev o : ℕ
    o = offset t k

    held_is : (n : ℕ) → run_held_for t c k n ≡ stretch v.body o (min n (v.reach - o))
    held_is n = ap (held_at t c o n) at ∙ (ap (held_of_lost c o n) there ∙ rw (lost, (ap (λ a. is_number a c) is_alone ∙ eq-refl c)) refl)

    -- nothing came there
    unheld : v.body o ≡ None → drop (o - base w) w.body ≡ [] → (n : ℕ) → run_held_for t c k n ≡ run_of x o (take n (drop (o - base w) w.body))
    unfolding stretch
    unheld absent rest n = held_is n ∙
        (ap (stretch_of v.body o (min n (v.reach - o))) absent ∙ sym (ap (λ b. run_of x o (take n b)) rest ∙ ap (run_of x o) (take_none n)))

    past : front w ≤ o → (n : ℕ) → v.stored o ≡ None → run_held_for t c k n ≡ run_of x o (take n (drop (o - base w) w.body))
    past over n missing = unheld (sym (tail.stored o (omega arith) (inr over)) ∙ missing) (drop_of_length-le w.body (omega arith)) n

    -- nor anywhere
    empty : w.body ≡ [] → (n : ℕ) → v.stored o ≡ None → run_held_for t c k n ≡ run_of x o (take n (drop (o - base w) w.body))
    empty none n missing = unheld absent (ap (drop (o - base w)) none ∙ drop_none (o - base w)) n
      where
        absent : v.body o ≡ None
        absent = elim (bool_cases (nat_lt o tail.from)) [
          | inl early ↦ let before : o < tail.from = grind (arith, nat_tests) in sym (tail.stored o (omega arith) (inl before)) ∙ missing
          | inr late ↦
              let behind : tail.from ≤ o = grind (arith, nat_tests) in
              let none_came : length w.body ≡ 0 = ap (λ (b : List ℕ). length b) none in
              let after_base : base w ≤ tail.from = tail.after_base in
              sym (tail.stored o (omega arith) (inr (omega arith))) ∙ missing
        ]

    inside : Covers v.body o (front w) → o < front w → (n : ℕ) → 0 < n → v.stored o ≡ None →
        run_held_for t c k n ≡ run_of x o (take n (drop (o - base w) w.body))
    unfolding stretch
    inside all under n some missing =
        let low : tail.from ≤ o = begins under missing in
        let m = min n (v.reach - o) in
        let rest : List ℕ = drop (o - base w) w.body in
        let count : length rest ≡ length w.body - (o - base w) = length-drop (o - base w) w.body in
        let after_base : base w ≤ tail.from = tail.after_base in
        let ends : front w ≤ v.reach = reached low under in
        let bytes : bytes_from v.body x o m ≡ take n rest =
        bytes_are v.body x w tail.from after_base came (λ q cell is same. (brings.only r x q cell w v there is same w_row).1) m o low ∙
        take_most n (v.reach - o) rest (omega arith) in
        let taken : length (take n rest) ≡ min n (length rest) = length-take n rest in
        held_is n ∙ (ap (stretch_of v.body o m) (came o low under) ∙
        (ap (λ (b : List ℕ). Some (record { x = x; at = o; bytes = b })) bytes ∙ sym (run_some x o (take n rest) (omega arith))))
      where
        -- what came there and isn't stored is held
        begins : o < front w → v.stored o ≡ None → tail.from ≤ o
        begins lt missing_o = elim (bool_cases (nat_lt o tail.from)) [
          | inr off ↦ grind (arith, nat_tests)
          | inl early ↦
              let absent : v.body o ≡ None = sym (tail.stored o (omega arith) (inl (grind (arith, nat_tests)))) ∙ missing_o in
              absurd (false_true (sym (ap (λ (q : Option Cell). is_some q) absent) ∙ all o (omega arith) (omega arith)))
        ]

        reached : tail.from ≤ o → o < front w → front w ≤ v.reach
        reached low lt = elim (bool_cases (nat_lt (front w - 1) v.reach)) [
          | inl on ↦ let under_reach : front w - 1 < v.reach = grind (arith, nat_tests) in omega arith
          | inr off ↦
              let over : v.reach ≤ front w - 1 = grind (arith, nat_tests) in
              absurd (none_some (cell_from x w (front w - 1))
              (sym ((s.rows r v there).store.ends (front w - 1) over) ∙ came (front w - 1) (omega arith) (omega arith)))
        ]

    -- all is there up to its front, or it brought nothing
    covered : (w.body ≡ []) ⊎ Covers v.body o (front w)
    covered =
        let one : goes.w ≡ w = same_row (t.exchange x) goes.w w (sym (ap t.exchange (some_inj goes.x x (sym goes.own ∙ own))) ∙ goes.row) w_row in
        subst (λ (q : Exchange). (q.body ≡ []) ⊎ Covers v.body o (front q)) one goes.covered

    next : v.stored o ≡ None → (n : ℕ) → 0 < n → run_held_for t c k n ≡ run_of x o (take n (drop (o - base w) w.body))
    next missing n some = elim covered [
      | inl none ↦ empty none n missing
      | inr all ↦ elim (bool_cases (nat_lt o (front w))) [
        | inl on ↦ let lt : o < front w = grind (arith, nat_tests) in inside all lt n some missing
        | inr off ↦ let over : front w ≤ o = grind (arith, nat_tests) in past over n missing
      ]
    ]

    holds_own : HoldsOwn t c v k
    holds_own = record { x = x; w = w; own = own; row = w_row; from = tail.from; ahead = ahead; next = next }

  losses_by : Losses t
  losses_by = record { alone = by_reader }
    where
      by_reader : (r c : ℕ) (v : Representation) (k : Consumer) → t.representation r ≡ Some v → v.alone ≡ Some c → IsBound t r c k → HoldsOwn t c v k
      by_reader r c v k there alone (sound.is_bound lo hi how row at) =
          let a = ahead_of.ahead r c v k there alone (sound.is_bound lo hi how row at) in
          holds_own r c a.x lo hi how v k a.w there alone row at a.own a.row

pub losses_in_runs : OfRuns Losses
losses_in_runs limits contents h may run =
    losses_by (tables contents h) (carried limits contents h may run).is_sound (brings_in_runs limits contents h may run)
    (tails_in_runs limits contents h may run) (ahead_in_runs limits contents h may run)
