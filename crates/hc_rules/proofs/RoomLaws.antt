-- What gives way is the shortest prefix that makes room.
use Rattle.std.{proofs.{Common.{◌≡◌, ℕ, suc, ◌+◌, ◌-◌, ◌<◌, ◌≤◌, leb, List, [], ◌∷◌, length, take, Option, Some, None, arith}, lemmas.List.Sums.{sum_by-cons}}, specs.Prelude.{sum, option_map}}
use Rattle.hc_text.proofs.Basics.{either, leb-le, leb-lt}
use Rattle.hc_rules.specs.{Rooms.{gives_way}, Laws.{IsShortest, ShortestGivesWay, sum_without}}

none-first : (most all : ℕ) (idle : List ℕ) → all ≤ most → IsShortest most all idle (Some 0)
none-first most all idle fits = (omega arith, let e : all - 0 ≤ most = omega arith in e, λ fewer below. absurd (omega arith))

sum-cons : (n : ℕ) (ns : List ℕ) → sum (n ∷ ns) ≡ n + sum ns
sum-cons n ns = sum_by-cons (λ (m : ℕ). m) n ns

fewer-over : (most all weight count : ℕ) (idle : List ℕ) → most < all → ((fewer : ℕ) → fewer < count → most < sum_without fewer (all - weight) idle)
    → (fewer : ℕ) → fewer < suc count → most < sum_without fewer all (weight ∷ idle)
fewer-over most all weight count idle over fewest fewer below = search (arith, sum-cons)

-- one more in front, which had to give way
one-first : (most all weight : ℕ) (idle : List ℕ) (o : Option ℕ) → most < all → IsShortest most (all - weight) idle o →
    IsShortest most all (weight ∷ idle) (option_map suc o)
one-first most all weight idle None over h = let e : most < all - weight - sum idle = h in let g : most < all - (weight + sum idle) = omega arith in
    rw (sum-cons weight idle) g
one-first most all weight idle (Some count) over h =
    let (within, fits, fewest) = h in (
      let e : suc count ≤ suc (length idle) = omega arith in e,
      let f : all - weight - sum (take count idle) ≤ most = fits in let g : all - (weight + sum (take count idle)) ≤ most = omega arith in
          rw (sum-cons weight (take count idle)) g,
      fewer-over most all weight count idle over fewest,
    )

pub shortest : ShortestGivesWay
shortest most all [] =
    either (IsShortest most all []) (leb all most) _ _
    (λ fits. none-first most all [] (leb-le all most fits))
    (λ over. let lt = leb-lt all most over in let e : most < all - 0 = omega arith in e)
shortest most all (weight ∷ idle) =
    either (IsShortest most all (weight ∷ idle)) (leb all most) _ _
    (λ fits. none-first most all (weight ∷ idle) (leb-le all most fits))
    (λ over. one-first most all weight idle (gives_way most (all - weight) idle) (leb-lt all most over) (shortest most (all - weight) idle))
