-- What is stored stays, at each entry of a run: a piece brings what wasn't there.
use Rattle.std.{proofs.Common.{◌≡◌, ℕ, ◌+◌, List, [], ◌∷◌, length, Bool, true, false, Option, Some, None, refl, ap, sym, ◌∙◌, subst}, specs.Prelude.{is_some, if◌then◌else◌, ◌||◌, not}}
use Rattle.hc_text.proofs.Basics.{not_some as none_some, never_true as not_so, same_some as same_row}
use Rattle.hc_sparse.specs.Cells.{Cells, Cell, AreAbsent, cells_with}
use Rattle.hc_effects.proofs.Vocabulary.{is_denied, Event, Limits, loses_in, denial, Entry, History, Contents, front, Flaw, flaw_in, entry_of, OfHistories, Tables, Exchange, Representation, IsOwed, Sound, IsStored, tables, after_accepted, after_denied}
use Rattle.hc_model.specs.Laws.{HasStored, GrowsStored, StoresGrow}
use Rattle.hc_laws.proofs.{Barred.{next_tables, denied_tables}, SoundRuns.{runs_are_sound}}
use Rattle.hc_sparse.proofs.OpLemmas.{absent-is}
use Rattle.hc_effects.proofs.{Basics.{false_true, some_row}, Fills.{still, more, Fills, IsPiece, fills}, OfEntries.{of_real}, Once.{delivers_once}, RepFrom.{RepFrom, IsKept, rep_from}, Stays.{stays_written}}
use Rattle.hc_effects.proofs.RepFrom as rep

module _ (limits : Limits) (t : Tables) (now : ℕ) (flaw : Flaw) (s : Sound t) (ev : Event) (goes : denial t ev ≡ None) where
  abbrev e : Entry
  e = entry_of limits t now ev flaw

  abbrev now_on : Tables
  now_on = after_accepted t e

  module _ (r p : ℕ) (cell : Cell) (v u : Representation) (kept : IsKept t e r v u) (there : v.stored p ≡ Some cell) where
    store : IsStored v
    store = (s.rows r v kept.row).store

    -- where a piece comes nothing is stored
    absent : (x : ℕ) (bytes : List ℕ) (w : Exchange) → IsPiece t e r x bytes w → AreAbsent v.stored (front w) (front w + length bytes)
    absent x bytes w is q le lt =
        let none : v.body q ≡ None = delivers_once t s x bytes w v (sym (ap (denial t) is.at) ∙ goes) is.row (ap t.representation is.of_r ∙ kept.row) q le lt in
        absent-is (v.stored q) (not_so (is_some (v.stored q))
        (λ some. false_true (sym (ap (λ (z : Option Cell). is_some z) (store.some_stored q some ∙ none)) ∙ some)))

    still_stored : Fills t e r v u → u.stored p ≡ Some cell
    still_stored (still none_of body_is stored_is reach_is) = ap (λ (f : Cells). f p) stored_is ∙ there
    still_stored (more x bytes w is body_is stored_is reach_is) = ap (λ (f : Cells). f p) stored_is ∙ by_kept (not (v.is_lost || loses_in r e.acts))
      where
        by_kept : (b : Bool) → (if b then cells_with (front w) x bytes v.stored else v.stored) p ≡ Some cell
        by_kept true = stays_written (front w) x p bytes v.stored cell (absent x bytes w is) there
        by_kept false = there

  has_stored : GrowsStored t now_on
  has_stored r p cell was =
      let got = some_row (now_on.representation r) (rep.stays t e r (t.representation r) (ap (λ (q : Option Representation). is_some q) was.row)) in
      by_from got.0 got.1 (rep_from t e r (t.representation r) got.0 refl got.1)
    where
      by_from : (u : Representation) → now_on.representation r ≡ Some u → RepFrom t e r u → HasStored now_on r p cell
      by_from u after (rep.was v kept) =
          let before : v.stored p ≡ Some cell = ap (λ (q : Representation). q.stored p) (same_row (t.representation r) v was.v kept.row was.row) ∙ was.stored in
          record { v = u; row = after; stored = still_stored r p cell v u kept before (fills t e r v u kept) }
      by_from u after (rep.founded response w none here row on made) = absurd (none_some was.v (sym none ∙ was.row))

denied_stored : (t : Tables) (e : Entry) → GrowsStored t (after_denied t e)
denied_stored t e r p cell was = record { v = was.v; row = was.row; stored = was.stored }

by_denial : (limits : Limits) (contents : Contents) (h : History) (e : Entry) (b : Bool) → is_denied e.acts ≡ b → Sound (tables contents h) →
    IsOwed limits (tables contents h) e → StoresGrow contents (e ∷ h)
by_denial limits contents h e true denied s owed =
    subst (GrowsStored (tables contents h)) (denied_tables contents h e denied) (denied_stored (tables contents h) e)
by_denial limits contents h e false accepted s owed =
    let t = tables contents h in
    subst (GrowsStored t) (next_tables contents h e accepted)
    (of_real limits t e (λ z. GrowsStored t (after_accepted t z)) owed accepted (λ going real. has_stored limits t e.now (flaw_in e.acts) s e.event going))

-- What is stored stays, in every run.
pub stores_grow_in_runs : OfHistories StoresGrow
stores_grow_in_runs limits contents [] may run = tt
stores_grow_in_runs limits contents (e ∷ h) may run = by_denial limits contents h e (is_denied e.acts) refl (runs_are_sound limits contents h may run.0) run.1
