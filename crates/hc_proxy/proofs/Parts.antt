-- The entries of a turn stand first in the history, the newest first, and each is at the moment of the turn.
use Rattle.std.{proofs.Common.{◌≡◌, ℕ, List, [], ◌∷◌, ◌++◌, Option, refl, ap, sym, ◌∙◌, subst}, specs.Prelude.{max}}
use Rattle.hc_effects.proofs.Vocabulary.{Event, Limits, Entry, History, owed}
use Rattle.hc_wire.specs.Logs.{Called}
use Rattle.hc_proxy.specs.{Handling.{begun}, Rows.{Proxy}, Steps.{with_entry, stepped}, Turns.{so_far, happened, turned}}
use Rattle.hc_proxy.proofs.{Later.{carried_is_same}, Turning.{IsKept, happened_keeps}}

abbrev pub AllAt : ℕ → List Entry → Type 0
AllAt now [] = Unit {0}
AllAt now (e ∷ es) = (e.now ≡ now) × AllAt now es

-- behind this history, at this moment
pub record IsPart (base : History) (now : ℕ) (p : Proxy) : Type 0 where
  pub first : p.history ≡ p.part ++ base
  pub moment : p.moment ≡ now
  pub at : AllAt now p.part

abbrev PartOn : History → ℕ → Proxy → Proxy → Type 0
PartOn base now p q = IsPart base now p → IsPart base now q

module _ (limits : Limits) (base : History) (now : ℕ) where
  step_part : (ev : Event) (p : Proxy) → PartOn base now p (stepped limits ev p)
  unfolding with_entry owed
  step_part ev p s = record { first = ap (λ es. owed limits p.tables p.moment ev ∷ es) s.first; moment = s.moment; at = (s.moment, s.at) }

  parts_on : IsKept limits (PartOn base now)
  parts_on = record {
    none = λ p s. s;
    both = λ p q r a b s. b (a s);
    comes = λ k p may s. record { first = s.first; moment = s.moment; at = s.at };
    client = λ k change p is s. record { first = s.first; moment = s.moment; at = s.at };
    origin = λ x change p is s. record { first = s.first; moment = s.moment; at = s.at };
    holder = λ c k p s. record { first = s.first; moment = s.moment; at = s.at };
    steps = λ ev p s. step_part ev p s;
  }

-- So it is behind a turn, whose moment is the greatest so far.
pub turn_part : (limits : Limits) (dialled : List (Option ℕ)) (call : Called) (p : Proxy) →
    IsPart p.history (max p.moment call.moment) (turned limits dialled call p)
unfolding turned
turn_part limits dialled call p =
    let h = happened limits (so_far p dialled) call (begun call p) in
    let s : IsPart p.history (max p.moment call.moment) h =
    happened_keeps limits (PartOn p.history (max p.moment call.moment)) (parts_on limits p.history (max p.moment call.moment)) (so_far p dialled) call
    (begun call p)
    (record { first = refl; moment = refl; at = tt }) in
    let same = carried_is_same h in
    record {
      first = same.history ∙ (s.first ∙ ap (λ es. es ++ p.history) (sym same.part));
      moment = same.moment ∙ s.moment;
      at = subst (AllAt (max p.moment call.moment)) (sym same.part) s.at;
    }
