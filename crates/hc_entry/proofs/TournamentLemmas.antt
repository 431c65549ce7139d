-- A tournament's winner is the least, and who comes to a place plays its way up.
--
-- A node has the lesser of the two below it. So by induction upwards the winner isn't above what any node has
-- (`reaches`), and downwards what a node has comes from a place (`comes`): hence the winner is the least of the places
-- (`wins`). Who comes to a place plays one round after another; each is played then, and only the one above it is open
-- (`round-open`). What is played above the places leaves the others as they were (`places-set`).
use Rattle.std.{proofs.{Common.{◌≡◌, ℕ, zero, suc, ◌+◌, ◌-◌, ◌*◌, ◌/◌, ◌<◌, ◌≤◌, ◌⊎◌, List, length, drop, set, Option, Some, None, refl, sym, ap, ◌∙◌, inl, inr, arith, length-set, get_or-set_same, get_or-set_other, get_or-drop, length-drop, [], ◌∷◌}, Math.Nat.{min-eq_left, min-eq_right, min-le_left, min-le_right}, lemmas.{Bool.{cases_eq, cases_lt}, List.{get_or_past, drop-set-add}}}, specs.Prelude.{min}}
use Rattle.hc_entry.specs.Tournaments.{at, lesser_of, IsLeastAt, IsPlayed, IsPlayedBut}

-- who goes on is one of the two
goes_on : (a b : Option ℕ) (n : ℕ) → lesser_of a b ≡ Some n → (a ≡ Some n) ⊎ (b ≡ Some n)
goes_on None b n is = inr is
goes_on (Some a) None n is = inl is
goes_on (Some a) (Some b) n is = elim (cases_lt b a) [
  | inl less ↦ let le : b ≤ a = omega arith in inr (ap Some (sym (min-eq_right le)) ∙ is)
  | inr le ↦ inl (ap Some (sym (min-eq_left le)) ∙ is)
]

-- and isn't above the left one, or the right one
not_above_left : (a b : Option ℕ) (n : ℕ) → a ≡ Some n → (m : ℕ) × (lesser_of a b ≡ Some m) × (m ≤ n)
not_above_left None b n is = absurd (cc)
not_above_left (Some a) None n is = let e : a ≡ n = cc in (a, refl, omega arith)
not_above_left (Some a) (Some b) n is = let e : a ≡ n = cc in let le = min-le_left a b in (min a b, refl, omega arith)

not_above_right : (a b : Option ℕ) (n : ℕ) → b ≡ Some n → (m : ℕ) × (lesser_of a b ≡ Some m) × (m ≤ n)
not_above_right None b n is = (n, is, omega arith)
not_above_right (Some a) None n is = absurd (cc)
not_above_right (Some a) (Some b) n is = let e : b ≡ n = cc in let le = min-le_right a b in (min a b, refl, omega arith)

module _ (nodes : List (Option ℕ)) (played : IsPlayed nodes) where
  -- what a node has the winner isn't above
  reaches : (most j n : ℕ) → j ≤ most → 1 ≤ j → j < length nodes → at nodes j ≡ Some n → (m : ℕ) × (at nodes 1 ≡ Some m) × (m ≤ n)
  reaches zero j n le some within is = absurd (omega arith)
  reaches (suc most) j n le some within is = elim (cases_eq j 1) [
    | inl one ↦ (n, ap (at nodes) (sym one) ∙ is, omega arith)
    | inr other ↦
        let up : ℕ = j / 2 in
        let round = played up (omega arith) (omega arith) (omega arith) in
        elim (cases_eq j (up + up)) [
          | inl left ↦
              let (m, goes, low) = not_above_left (at nodes (up + up)) (at nodes (up + up + 1)) n (ap (at nodes) (sym left) ∙ is) in
              let (w, wins, lower) = reaches most up m (omega arith) (omega arith) (omega arith) (round ∙ goes) in
              (w, wins, omega arith)
          | inr off ↦
              let right : j ≡ up + up + 1 = omega arith in
              let (m, goes, low) = not_above_right (at nodes (up + up)) (at nodes (up + up + 1)) n (ap (at nodes) (sym right) ∙ is) in
              let (w, wins, lower) = reaches most up m (omega arith) (omega arith) (omega arith) (round ∙ goes) in
              (w, wins, omega arith)
        ]
  ]

  -- what a node has comes from a place
  comes : (places most i n : ℕ) → length nodes ≡ places + places → length nodes ≤ i + most → 1 ≤ i → i < length nodes → at nodes i ≡ Some n
      → (k : ℕ) × (at (drop places nodes) k ≡ Some n)
  comes places zero i n is le some within has = absurd (omega arith)
  comes places (suc most) i n is le some within has = elim (cases_lt i places) [
    | inr leaf ↦
        let e : places + (i - places) ≡ i = omega arith in
        (i - places, get_or-drop places nodes (i - places) None ∙ (ap (at nodes) e ∙ has))
    | inl inner ↦
        elim (goes_on (at nodes (i + i)) (at nodes (i + i + 1)) n (sym (played i some (omega arith) (omega arith)) ∙ has)) [
          | inl left ↦ comes places most (i + i) n is (omega arith) (omega arith) (omega arith) left
          | inr right ↦ comes places most (i + i + 1) n is (omega arith) (omega arith) (omega arith) right
        ]
  ]

  pub wins : (places : ℕ) → length nodes ≡ places + places → 1 ≤ places → IsLeastAt (at nodes 1) (drop places nodes)
  wins places is some = record {
    there = λ n won. comes places (length nodes) 1 n is (omega arith) (omega arith) (omega arith) won;
    none_lower = λ k n has.
        let at_node : at nodes (places + k) ≡ Some n = sym (get_or-drop places nodes k None) ∙ has in
        elim (cases_lt (places + k) (length nodes)) [
          | inr past ↦ let none = get_or_past nodes (places + k) None past in absurd (cc)
          | inl within ↦ reaches (places + k) (places + k) n (omega arith) (omega arith) (omega arith) at_node
        ];
  }

-- a round that is played leaves the one above it
pub round-open : (nodes : List (Option ℕ)) (below node : ℕ) → node ≡ below / 2 → 1 ≤ node → node + node + 1 < length nodes → IsPlayedBut (below / 2) nodes
    → IsPlayedBut (node / 2) (set nodes node (lesser_of (at nodes (2 * node)) (at nodes (2 * node + 1))))
round-open nodes below node is some fits played i from within off =
    let won : Option ℕ = lesser_of (at nodes (2 * node)) (at nodes (2 * node + 1)) in
    let size = length-set nodes node won in
    let left = get_or-set_other nodes node (i + i) won None (omega arith) in
    let right = get_or-set_other nodes node (i + i + 1) won None (omega arith) in
    let both : lesser_of (at (set nodes node won) (i + i)) (at (set nodes node won) (i + i + 1)) ≡ lesser_of (at nodes (i + i)) (at nodes (i + i + 1)) = cc in
    elim (cases_eq i node) [
      | inl here ↦
          let twice : 2 * node ≡ i + i = omega arith in
          let more : 2 * node + 1 ≡ i + i + 1 = omega arith in
          ap (λ (k : ℕ). at (set nodes node won) k) here
          ∙ (get_or-set_same nodes node won None (omega arith)
          ∙ (ap (λ (k : ℕ). lesser_of (at nodes k) (at nodes (2 * node + 1))) twice
          ∙ (ap (λ (k : ℕ). lesser_of (at nodes (i + i)) (at nodes k)) more
          ∙ sym both)))
      | inr other ↦
          get_or-set_other nodes node i won None other ∙ (played i from (omega arith) (omega arith) ∙ sym both)
    ]

same_numbers : (xs ys : List (Option ℕ)) → length xs ≡ length ys → ((k : ℕ) → at xs k ≡ at ys k) → xs ≡ ys
same_numbers [] [] size same = refl
same_numbers [] (y ∷ ys) size same = absurd (omega (arith, size))
same_numbers (x ∷ xs) [] size same = absurd (omega (arith, size))
same_numbers (x ∷ xs) (y ∷ ys) size same =
    let tail = same_numbers xs ys (omega (arith, size)) (λ k. same (suc k)) in
    ap (λ (o : Option ℕ). o ∷ xs) (same 0) ∙ ap (λ (l : List (Option ℕ)). y ∷ l) tail

-- what is played above the places leaves the other places
pub places-set : (nodes new : List (Option ℕ)) (places place : ℕ) (number : Option ℕ) → length nodes ≡ places + places → length new ≡ length nodes
    → ((k : ℕ) → length nodes ≤ k + k → at new k ≡ at (set nodes (places + place) number) k)
    → drop places new ≡ set (drop places nodes) place number
places-set nodes new places place number is size same =
    let set_size = length-set nodes (places + place) number in
    same_numbers (drop places new) (drop places (set nodes (places + place) number))
    (length-drop places new ∙ (ap (λ (n : ℕ). n - places) (size ∙ sym set_size) ∙ sym (length-drop places (set nodes (places + place) number))))
    (λ k. get_or-drop places new k None ∙ (same (places + k) (omega arith) ∙ sym (get_or-drop places (set nodes (places + place) number) k None)))
    ∙ drop-set-add places nodes place number
