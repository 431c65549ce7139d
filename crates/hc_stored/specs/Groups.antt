-- The writer group of a representation, beside who is bound to that and where what is stored ends.
use Rattle.std.specs.Prelude.{◌≡◌, ℕ, ◌≤◌, ◌^◌, List, map, false, Option, option_map, IfSome}
use Rattle.hc_writers.specs.Group.{Group, consumer_of}
use Rattle.hc_stored.specs.Kept.{Kept}

abbrev pub exchange_of : Option Group → Option ℕ
exchange_of group = option_map (λ (w : Group). w.exchange) group

-- what is stored ends where its group says
abbrev pub EndsAt : ℕ → Option Group → Type 0
EndsAt reach group = IfSome group (λ (w : Group). w.end ≡ reach)

-- whoever is bound is a member, and what is stored ends there
pub record HasMembers (bound : List ℕ) (reach : ℕ) (w : Group) : Type 0 where
  pub shared : w.alone ≡ false
  pub members : map consumer_of w.members ≡ bound
  pub end : w.end ≡ reach

-- Until it is lost, what is kept of a representation names the exchange of its group. Whoever is bound is a member.
pub record IsGroupOf (group : Option Group) (k : Kept) : Type 0 where
  pub exchange : k.is_lost ≡ false → exchange_of group ≡ k.writer
  pub members : IfSome group (HasMembers k.bound k.reach)
  pub within : k.reach ≤ 2 ^ 62
