-- What a body has stays, at each entry of a run: that of a representation, and that of an answer past the store.
--
-- A representation keeps its bytes, as a piece comes where nothing was (`kept_grows`). The bytes of an answer past the
-- store are those of its exchange (`byte_of`). This keeps its base once it has a head, and its body only grows
-- (`by_brings`). No representation of that number, which would hide it, is founded later (`none_founded`). `grows`
-- joins both for an entry, and `bodies_grow_in_runs` for a run.
use Rattle.std.{proofs.{Common.{◌≡◌, ◌⊎◌, inl, inr, ℕ, ◌+◌, ◌-◌, ◌<◌, ◌≤◌, List, ◌∷◌, ◌++◌, length, Bool, true, false, Option, Some, None, refl, ap, sym, ◌∙◌, subst, arith, length-append}, Math.ListN.{get_or-append}, lemmas.Bool.Decides.{nat_tests}}, specs.Prelude.{is_some, slice_index}}
use Rattle.hc_text.proofs.Basics.{not_some as none_some, same_some as same_row}
use Rattle.hc_sparse.specs.Cells.{Cell}
use Rattle.hc_effects.proofs.Vocabulary.{is_denied, Event, Limits, base_of, denial, Entry, History, Contents, base, front, Flaw, entry_of, answer_cell, direct_cell, cell_by, body_of, Tables, Exchange, Representation, IsOwed, Sound, tables, after_accepted, after_denied}
use Rattle.hc_model.specs.Laws.{Grows, BodiesGrowInRuns}
use Rattle.hc_laws.proofs.{Barred.{next_tables, denied_tables}, SoundRuns.{runs_are_sound}}
use Rattle.hc_effects.proofs.{Forward.{is_on}, Basics.{false_true}, ExchangeFrom.{IsSame, IsHeaded}, Fills.{Brings, brings, length_same}, FirstKeeps.{is_new}, OfEntries.{of_real}, RepFrom.{RepFrom, rep_from}, Stays.{bodies_are_kept}}
use Rattle.hc_effects.proofs.Fills as fills_by
use Rattle.hc_effects.proofs.RepFrom as rep

-- AN ANSWER PAST THE STORE

-- its byte at a position
record IsByte (x p : ℕ) (w : Exchange) (cell : Cell) : Type 0 where
  from : base w ≤ p
  below : p < front w
  is : cell ≡ record { byte = slice_index w.body (p - base w); x = x }

byte_of : (x p : ℕ) (w : Exchange) (cell : Cell) → answer_cell x p w ≡ Some cell → IsByte x p w cell
byte_of x p w cell h = grind (arith, nat_tests)

cell_of : (x p : ℕ) (w : Exchange) → base w ≤ p → p < front w → answer_cell x p w ≡ Some (record { byte = slice_index w.body (p - base w); x = x })
cell_of x p w from below = grind (arith, nat_tests)

module _ (limits : Limits) (t : Tables) (now : ℕ) (flaw : Flaw) (s : Sound t) (ev : Event) (goes : denial t ev ≡ None) where
  abbrev e : Entry
  e = entry_of limits t now ev flaw

  abbrev now_on : Tables
  now_on = after_accepted t e

  module _ (x p : ℕ) (w z : Exchange) (cell : Cell) (row : t.exchange x ≡ Some w) (same : IsSame t e x w z) (after_x : now_on.exchange x ≡ Some z)
      (b : IsByte x p w cell) where
    -- it has its head
    headed : w.head ≡ None → ⊥
    headed bare = grind (arith, nat_tests)

    base_same : ((z.head ≡ w.head) × (z.joined ≡ w.joined)) ⊎ IsHeaded t e x w z → base z ≡ base w
    base_same (inl still) = ap base_of (length_same w z same.need_is same.request_is still.0)
    base_same (inr got) = absurd (headed (is_new limits t now flaw s ev goes x got.response w got.at row).bare)

    by_brings : base z ≡ base w → Brings t e x w z → answer_cell x p z ≡ Some cell
    by_brings first (fills_by.still none_of body_is) = grind (arith, nat_tests)
    by_brings first (fills_by.more bytes here body_is) =
        let longer : length z.body ≡ length w.body + length bytes = ap (λ (a : List ℕ). length a) body_is ∙ length-append w.body bytes in
        let inside : p - base w < length w.body = omega arith in
        let byte : slice_index z.body (p - base z) ≡ slice_index w.body (p - base w) = ap (λ (a : List ℕ). slice_index a (p - base z)) body_is ∙
        (ap (λ n. slice_index (w.body ++ bytes) (p - n)) first ∙ get_or-append w.body bytes 0 (p - base w) inside) in
        cell_of x p z (omega arith) (omega arith) ∙ (ap (λ n. Some (record { byte = n; x = x })) byte ∙ ap Some (sym b.is))

    -- and isn't founded
    none_founded : (q : Representation) → t.representation x ≡ None → RepFrom t e x q → ⊥
    none_founded q none (rep.was v kept) = none_some v (sym none ∙ kept.row)
    none_founded q none (rep.founded response y none_there here also on made) =
        headed (ap (λ (a : Exchange). a.head) (same_row (t.exchange x) w y row also) ∙ (is_new limits t now flaw s ev goes x response y here also).bare)

    still_past : (q : Option Representation) → now_on.representation x ≡ q → t.representation x ≡ None → cell_by now_on x p q ≡ Some cell
    still_past None after none = ap (direct_cell x p) after_x ∙ (by_brings (base_same same.heard_or) (brings t e x w z row after_x))
    still_past (Some q) after none = absurd (none_founded q none (rep_from t e x (t.representation x) q refl after))

  direct_grows : (r p : ℕ) (q : Option Exchange) (cell : Cell) → t.representation r ≡ None → t.exchange r ≡ q → direct_cell r p q ≡ Some cell →
      cell_by now_on r p (now_on.representation r) ≡ Some cell
  direct_grows r p None cell none row h = absurd (none_some cell h)
  direct_grows r p (Some w) cell none row h =
      let g = is_on t e r w row in
      still_past r p w g.u cell row g.same g.row (byte_of r p w cell h) (now_on.representation r) refl none

  kept_grows : (r p : ℕ) (v : Representation) (q : Option Representation) (cell : Cell) → t.representation r ≡ Some v → now_on.representation r ≡ q →
      v.body p ≡ Some cell → cell_by now_on r p q ≡ Some cell
  kept_grows r p v None cell there after h =
      absurd (let stands : is_some (now_on.representation r) ≡ true = rep.stays t e r (t.representation r) (ap is_some there) in
      false_true (sym (ap is_some after) ∙ stands))
  kept_grows r p v (Some q) cell there after h = bodies_are_kept limits t now flaw s ev goes r p cell v q there after h

  cell_grows : (r p : ℕ) (q : Option Representation) (cell : Cell) → t.representation r ≡ q → cell_by t r p q ≡ Some cell → body_of now_on r p ≡ Some cell
  cell_grows r p None cell row h = direct_grows r p (t.exchange r) cell row refl h
  cell_grows r p (Some v) cell row h = kept_grows r p v (now_on.representation r) cell row refl h

  pub grows : Grows t now_on
  grows r at x bytes delivers n lt = cell_grows r (at + n) (t.representation r) (record { byte = slice_index bytes n; x = x }) refl (delivers n lt)

denied_grows : (t : Tables) (e : Entry) → Grows t (after_denied t e)
denied_grows t e r at x bytes delivers n lt = delivers n lt

by_denial : (limits : Limits) (contents : Contents) (h : History) (e : Entry) (b : Bool) → is_denied e.acts ≡ b → Sound (tables contents h) →
    IsOwed limits (tables contents h) e → Grows (tables contents h) (tables contents (e ∷ h))
by_denial limits contents h e true denied s owed = subst (Grows (tables contents h)) (denied_tables contents h e denied) (denied_grows (tables contents h) e)
by_denial limits contents h e false accepted s owed =
    let t = tables contents h in
    subst (Grows t) (next_tables contents h e accepted)
    (of_real limits t e (λ z. Grows t (after_accepted t z)) owed accepted
    (λ going real. grows limits t e.now (Rattle.hc_model.specs.Flaws.flaw_in e.acts) s e.event going))

-- What a body has stays, at each entry of a run.
pub bodies_grow_in_runs : BodiesGrowInRuns
bodies_grow_in_runs limits contents may h e run = by_denial limits contents h e (is_denied e.acts) refl (runs_are_sound limits contents h may run.0) run.1
