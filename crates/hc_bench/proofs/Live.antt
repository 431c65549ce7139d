-- A slot that is called again and again.
use Rattle.std.{proofs.{Common.{◌≡◌, ℕ, ◌+◌, ◌≤◌, List, length, true, Option, Some, None, eqb, refl, ap, ◌∙◌, arith}, lemmas.Bool.Decides.{nat_tests}}, specs.Prelude.{is_some, option_map}}
use Rattle.hc_record.specs.{declared.kind.Kind.{Kind}, Head.{Head}}
use Rattle.hc_sparse.proofs.CellLemmas.{inside-past}
use Rattle.hc_store.specs.Slots.{Held, Slots, is_live, cells_in, cells_held, slots_after, puts, with_bare}

here : (f : Held → Held) (n : ℕ) (slots : Slots) → slots_after f n slots n ≡ option_map f (slots n)
here f n slots = let on : eqb n n ≡ true = grind (arith, nat_tests) in rw on refl

mapped : (f : Held → Held) (o : Option Held) → is_some o ≡ true → is_some (option_map f o) ≡ true
mapped f None is = is
mapped f (Some h) is = refl

pub live-after : (a b : Slots) (n : ℕ) (f : Held → Held) → is_live a n ≡ true → b ≡ slots_after f n a → is_live b n ≡ true
live-after a b n f live is = ap (λ (s : Slots). is_some (s n)) is ∙ (ap is_some (here f n a) ∙ mapped f (a n) live)

past : (from x : ℕ) (bytes : List ℕ) (last : Option Kind) (o : Option Held) (p : ℕ) → from + length bytes ≤ p → cells_held o p ≡ None →
    cells_held (option_map (puts from x bytes last) o) p ≡ None
past from x bytes last None p le none = none
past from x bytes last (Some h) p le none = rw (inside-past from (length bytes) p le) none

pub empty-after : (a b : Slots) (n from x : ℕ) (bytes : List ℕ) (last : Option Kind) (p : ℕ) → from + length bytes ≤ p → cells_in a n p ≡ None →
    b ≡ slots_after (puts from x bytes last) n a → cells_in b n p ≡ None
empty-after a b n from x bytes last p le none is = ap (λ (s : Slots). cells_held (s n) p) is ∙
    (ap (λ o. cells_held o p) (here (puts from x bytes last) n a) ∙ past from x bytes last (a n) p le none)

pub bare-live : (slots : Slots) (n : ℕ) (head : Head) → is_live (with_bare n head slots) n ≡ true
bare-live slots n head = let on : eqb n n ≡ true = grind (arith, nat_tests) in rw on refl

pub bare-empty : (slots : Slots) (n : ℕ) (head : Head) (p : ℕ) → cells_in (with_bare n head slots) n p ≡ None
bare-empty slots n head p = let on : eqb n n ≡ true = grind (arith, nat_tests) in rw on refl
