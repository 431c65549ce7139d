-- Lengths that are told are short enough for a store.
use Rattle.std.{proofs.{Common.{◌≡◌, ℕ, ◌+◌, ◌<◌, ◌^◌, max, true, Option, Some, None, refl, ap, sym, ◌∙◌, subst, arith}, lemmas.Bool.Decides.{nat_tests}}, specs.{Prelude.{option_map, nat_eq, is_some, IfSome}, HashMap.{get}}}
use Rattle.hc_effects.proofs.Vocabulary.{Limits, with_consumer, as_over, Lawful, Numbers, Tables, Representation}
use Rattle.hc_effects.proofs.Tests.{none_some}
use Rattle.hc_store.specs.declared.backend.Backend.{Ghosts}
use Rattle.hc_stored.specs.{declared.view.EntryView.{EntryView}, Entries.{shelf_of}, Kept.{Kept}, Shelf.{Shelf}, Views.{view_of}}
use Rattle.hc_model.specs.Rows as rows
use Rattle.hc_state.specs.{declared.rows.Rows.{Rows}, Stands.{RowsStand, Stands}, Stored.{KeepsEntry, KnowsLength, reported, unreported, KnowsShort}}
use Rattle.hc_state.proofs.{LeftRows.{live_row}, Maps.{merely_below}, Words.{few_received}}

below_room : (n m : ℕ) → n < max (2 ^ 62) (m + 1) → m < 2 ^ 62 → n < 2 ^ 62
below_room n m lt small = grind (arith, nat_tests)

-- the length of what is kept is that of its row
pub entry_short : (t : Tables) (q n : ℕ) (k : Kept) (o : Option Representation) →
    ((v : Representation) → o ≡ Some v → v.head.total ≡ Some n → n < 2 ^ 62) → KeepsEntry t q (Some k) o → k.head.total ≡ Some n → n < 2 ^ 62
entry_short t q n k o rows kept known = grind (arith, nat_tests)

-- where they represent tables with the representations of a run
pub shorts : {B : Type 0} {g : Ghosts B} {limits : Limits} (u : Rows B g) (t s : Tables) → Numbers t → t.received < 2 ^ 62 →
    s.representation ≡ t.representation → RowsStand limits u s → KnowsShort (shelf_of u.entries)
shorts u t s numbers few same stands q n k at known =
    entry_short s q n k (s.representation q) (λ v row is. below_room n t.received (numbers.totals q n v (sym (ap (λ f. f q) same) ∙ row) is) few)
    (subst (λ o. KeepsEntry s q o (s.representation q)) at (stands.entries.each q)) known

-- before an event
pub shorts_here : {B : Type 0} {g : Ghosts B} (r : Rows B g) → ∥ Stands r ∥₁ → KnowsShort (shelf_of r.entries)
shorts_here r some q n k at known = merely_below n (2 ^ 62) some (λ s.
    let t : Tables = s.t in
    shorts r t t s.numbers (few_received s.received) refl s.rows q n k at known)

-- once a consumer is gone
pub shorts_left : {B : Type 0} {g : Ghosts B} (r u : Rows B g) (c : ℕ) → ∥ Stands r ∥₁ → is_some (get nat_eq r.consumers c) ≡ true →
    ((limits : Limits) (t : Tables) (k : rows.Consumer) → Lawful t → t.consumer c ≡ Some k → RowsStand limits r t →
    RowsStand limits u (with_consumer c (Some (as_over k)) t)) → KnowsShort (shelf_of u.entries)
shorts_left r u c some lives leaves q n k at known = merely_below n (2 ^ 62) some (λ s.
    let t : Tables = s.t in
    let facts = s.facts in
    let v = live_row r t c lives s.rows in
    shorts u t (with_consumer c (Some (as_over v.0)) t) s.numbers (few_received s.received) refl (leaves _ t v.0 facts.law v.1 s.rows) q n k at known)

-- what is told of what is kept
pub view_short : (s : Shelf) (q : ℕ) (o : Option EntryView) (entry : EntryView) → KnowsShort s → o ≡ option_map view_of (s.kept q) → o ≡ Some entry →
    IfSome entry.total (λ n. n < 2 ^ 62)
view_short s q o entry short is some = grind (arith, nat_tests)
