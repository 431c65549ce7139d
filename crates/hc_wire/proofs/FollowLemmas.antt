-- What is left of a script.
use Rattle.std.proofs.{Common.{◌≡◌, ℕ, suc, ◌+◌, ◌<◌, List, [], ◌∷◌, length, get_or, drop, Some, refl, sym, ap, ◌∙◌, inl, inr, arith, add-one, drop-cons}, lemmas.{Bool.{cases_Bool}, List.{drop_more}}}
use Rattle.hc_wire.specs.{declared.{event.WireEvent.{WireEvent}, scripted.Scripted.{Scripted}}, Logs.{Taker}, Following.{left_at, behind_first, behind_past, is_past, coming_in, coming_by, coming_of}}

-- behind the first item
pub behind_one : (script : List Scripted) (at off : ℕ) → at < length script → left_at script (at + 1) 0 ≡ behind_first (drop at script) off
behind_one [] at off lt = absurd (omega arith)
behind_one (s ∷ rest) at off lt = ap (λ (items : List Scripted). behind_first items off) (sym (drop_more (s ∷ rest) at s lt))

-- the item at a place
item_at : (script : List Scripted) (at : ℕ) (item : Scripted) → at < length script → item ≡ get_or script at item → drop at script ≡ item ∷ drop (at + 1) script
item_at script at item lt is = rw add-one (drop-cons script at item lt ∙ ap (λ (s : Scripted). s ∷ drop (suc at) script) (sym is))

-- an item of which something comes is the next one
module _ (cs : List Taker) (last room off : ℕ) (item : Scripted) (p : ℕ × WireEvent) (comes : Some p ≡ coming_of cs last room off item) where
  stands_of : (rest : List Scripted) → behind_past cs (item ∷ rest) off ≡ record { items = item ∷ rest; off = off }
  stands_of rest = elim (cases_Bool (is_past cs off item.event (length item.bytes))) [
    | inl on ↦ let h = rw on at comes in absurd (cc)
    | inr out ↦ rw out refl
  ]

  comes_of : p ≡ coming_by cs last room off item item.event
  comes_of = elim (cases_Bool (is_past cs off item.event (length item.bytes))) [
    | inl on ↦ let h = rw on at comes in absurd (cc)
    | inr out ↦ let h = rw out at comes in cc
  ]

  pub stands : (script : List Scripted) (at : ℕ) → at < length script → item ≡ get_or script at item →
      left_at script at off ≡ behind_past cs (drop at script) off
  stands script at lt is = rw (item_at script at item lt is) (sym (stands_of (drop (at + 1) script)))

  pub comes_at : (script : List Scripted) (at : ℕ) → at < length script → item ≡ get_or script at item → p ≡ coming_in cs last room (drop at script) off
  comes_at script at lt is = rw (item_at script at item lt is) comes_of
