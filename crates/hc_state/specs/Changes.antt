-- Changes of the consumers that are kept.
use Rattle.std.specs.Prelude.{◌≡◌, ℕ, ◌+◌, Bool, true, Option, Some, None, is_some, option_map, if◌then◌else◌, ◌==◌, nat_eq}
use Rattle.std.specs.Option.{option_or}
use Rattle.std.specs.HashMap.{HashMap, get, hash_map_len}
use Rattle.std.specs.declared.hash.BuildHasherDefault.{BuildHasherDefault}
use Rattle.std.specs.declared.hash.FoldHasher.{FoldHasher}
use Rattle.hc_range.specs.declared.range.Span.{Span}
use Rattle.hc_event.specs.declared.event.Response.{Response}
use Rattle.hc_event.specs.declared.act.Cause.{Cause}
use Rattle.hc_event.specs.declared.place.Place.{Place}
use Rattle.hc_event.specs.declared.place.Place.TheVariants as place
use Rattle.hc_event.specs.declared.place.BoundBy.TheVariants as by
use Rattle.hc_model.specs.Planning.{has_passed}
use Rattle.hc_txn.specs.declared.transaction.Transaction.{Transaction as Consumer}
use Rattle.hc_txn.specs.Transactions.{once_over}

abbrev pub Numbered : Type 0 → Type 0
Numbered A = HashMap ℕ A (BuildHasherDefault FoldHasher)

-- A CHANGE OF A MAP AT ONE NUMBER

-- the value at the number is changed so, every other is as it was, and the count stays
pub record ChangesAt {A : Type 0} (old new : Numbered A) (c : ℕ) (change : A → A) : Type 0 where
  pub places : (d : ℕ) →
      get nat_eq new d
      ≡ (if c == d then option_map change (get nat_eq old c) else get nat_eq old d)
  pub len : hash_map_len new ≡ hash_map_len old

abbrev pub one : {A : Type 0} → Option A → ℕ
one o = if is_some o then 1 else 0

-- the number has the value or none, every other what it had, and the count is as it must be
pub record BecomesAt {A : Type 0} (old new : Numbered A) (c : ℕ) (value : Option A) : Type 0 where
  pub places : (d : ℕ) → get nat_eq new d ≡ (if c == d then value else get nat_eq old d)
  pub len : hash_map_len new + one (get nat_eq old c) ≡ hash_map_len old + one value

-- each number has what it had
pub record StaysAll {A : Type 0} (old new : Numbered A) : Type 0 where
  pub places : (d : ℕ) → get nat_eq new d ≡ get nat_eq old d
  pub len : hash_map_len new ≡ hash_map_len old

-- each of these changes so, every other is as it was, and the count stays
pub record ChangesAmong {A : Type 0} (old new : Numbered A) (among : ℕ → Bool) (change : A → A) :
    Type 0 where
  pub places : (d : ℕ) →
      get nat_eq new d
      ≡ (if among d then option_map change (get nat_eq old d) else get nat_eq old d)
  pub len : hash_map_len new ≡ hash_map_len old

-- whoever is kept stays so
abbrev pub KeepsLive : {A : Type 0} → Numbered A → Numbered A → Type 0
KeepsLive old new = (d : ℕ) → is_some (get nat_eq new d) ≡ is_some (get nat_eq old d)

-- A CONSUMER

-- where it has passed
abbrev pub over_if_passed : ℕ → Consumer → Consumer
over_if_passed now k = if has_passed k.place then once_over now k else k
