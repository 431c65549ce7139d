-- The idle ones, one by one from the end of the order.
use Rattle.std.{proofs.{Common.{◌≡◌, ℕ, suc, ◌+◌, ◌-◌, ◌<◌, List, [], ◌∷◌, ◌++◌, Bool, true, false, leb, Option, Some, None, refl, ap, ◌∙◌, arith}, lemmas.{Bool.Decides.{nat_tests}, List.{map-append, reverse-append}}}, specs.{Prelude.{option_map, filter, reverse, is_some}, Map.{keys_of}}}
use Rattle.hc_store.specs.Slots.{Held, Slots}
use Rattle.hc_rules.specs.Rooms.{gives_way}
use Rattle.hc_stored.specs.{Rows.{Row, Rows, kept_by, kept_of, is_unused_row}, Shelf.{is_unused}, Shelved.{IsShelved, AreShelved}}

unused-held : (row : Row) (o : Option Held) → is_some o ≡ true → is_unused_row (Some row) ≡ is_unused (option_map (kept_of row) o)
unused-held row None live = absurd (let never : false ≡ true = live in cc)
unused-held row (Some held) live = refl

unused-row : (slots : Slots) (o : Option Row) → ((row : Row) → o ≡ Some row → IsShelved (slots row.slot) row) → is_unused_row o ≡ is_unused (kept_by slots o)
unused-row slots None each = refl
unused-row slots (Some row) each = unused-held row (slots row.slot) (each row refl).live

pub unused-kept : {rows : Rows} {order : List ℕ} {slots : Slots} → AreShelved rows order slots → (r : ℕ) →
    is_unused_row (rows r) ≡ is_unused (kept_by slots (rows r))
unused-kept {rows} {order} {slots} good r = unused-row slots (rows r) (good.each r)

-- the last one of the order is the first one of those that are left
last-first : (es rest : List (ℕ × Unit {0})) (n : ℕ) (u : Unit {0}) → es ≡ rest ++ (n, u) ∷ [] → reverse (keys_of es) ≡ n ∷ reverse (keys_of rest)
last-first es rest n u is =
    ap (λ (xs : List (ℕ × Unit {0})). reverse (keys_of xs)) is
    ∙ (ap reverse (map-append (λ (e : ℕ × Unit {0}). e.0) rest ((n, u) ∷ [])) ∙ reverse-append (keys_of rest) (n ∷ []))

module _ (test : ℕ → Bool) where
  pub idle-last : (es rest : List (ℕ × Unit {0})) (n : ℕ) (u : Unit {0}) → es ≡ rest ++ (n, u) ∷ [] → test n ≡ true
      → filter test (reverse (keys_of es)) ≡ n ∷ filter test (reverse (keys_of rest))
  idle-last es rest n u is passes = ap (filter test) (last-first es rest n u is) ∙ (rw passes refl)

-- one more gives way
pub gives-more : (count most left weight : ℕ) (idle : List ℕ) (all : Option ℕ) → most < left →
    option_map (λ (n : ℕ). count + n) (gives_way most left (weight ∷ idle)) ≡ all
    → option_map (λ (n : ℕ). count + 1 + n) (gives_way most (left - weight) idle) ≡ all
gives-more count most left weight idle all over is =
    let e : leb left most ≡ false = grind (arith, nat_tests) in
    adds (gives_way most (left - weight) idle) ∙ rw e at is where
      adds : (o : Option ℕ) → option_map (λ (n : ℕ). count + 1 + n) o ≡ option_map (λ (n : ℕ). count + n) (option_map suc o)
      adds None = refl
      adds (Some n) = ap Some (let e : count + 1 + n ≡ count + suc n = omega arith in e)
