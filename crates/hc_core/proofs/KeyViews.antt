-- What a cache tells of a key: whose turn it is, and how much is stored of what is current.
use Rattle.std.{proofs.Common.{◌≡◌, ℕ, List, Some, None, ap, sym, ◌∙◌}, specs.{Prelude.{option_map}, Option.{option_and_then}}}
use Rattle.hc_text.proofs.Basics.{some_inj as some_is}
use Rattle.hc_store.specs.declared.backend.Backend.{Ghosts}
use Rattle.hc_stored.specs.{declared.view.EntryView.{EntryView}, Entries.{shelf_of}, Views.{view_of}}
use Rattle.hc_entry.specs.{Keys.{kept_of, line_of}, Lines.{turn_of}}
use Rattle.hc_effects.proofs.Vocabulary.{current, Contents, History, kind_of, kind_at, kind_for, turn, Tables, tables}
use Rattle.hc_effects.proofs.Tests.{none_some}
use Rattle.hc_laws.proofs.SoundRuns.{runs_are_sound}
use Rattle.hc_state.proofs.{CurrentTies.{IsNow, now_kept}, TurnTies.{turn_of_is}}
use Rattle.hc_core.specs.{declared.cache.Cache.{Cache}, Steps.{StandsFor}}

module _ {B : Type 0} {g : Ghosts B} (s : Cache B g) (key : List ℕ) (contents : Contents) (h : History) (stands : StandsFor s contents h) where
  abbrev t : Tables
  t = tables contents h

  pub turn_reported : turn_of (line_of s.rows.keys key) ≡ turn t key
  turn_reported = turn_of_is t key (kept_of s.rows.keys key)
      (runs_are_sound (shelf_of s.rows.entries).limits contents h stands.begins stands.run).numbered.lists (stands.rows.keys key)

  module _ (q : ℕ) (at : (kept_of s.rows.keys key).current ≡ Some q) where
    is_current : current t key ≡ Some q
    is_current = sym (stands.rows.keys key).current ∙ at

    now : IsNow s.rows t stands.rows key q
    now = now_kept s.rows t stands.rows key q is_current

    -- it is kept
    pub never_unkept : option_map view_of ((shelf_of s.rows.entries).kept q) ≡ None → ⊥
    never_unkept none = none_some (view_of now.e) (sym none ∙ ap (option_map view_of) now.kept)

    pub kind_reported : (view : EntryView) → option_map view_of ((shelf_of s.rows.entries).kept q) ≡ Some view → Some view.kind ≡ kind_for t key
    kind_reported view is =
        let seen : view_of now.e ≡ view = some_is (view_of now.e) view (sym (ap (option_map view_of) now.kept) ∙ is) in
        ap (λ (z : EntryView). Some z.kind) (sym seen)
        ∙ (ap Some (now.is.kind now.stays)
        ∙ (sym (ap (option_map (kind_of t q)) now.row) ∙ sym (ap (option_and_then (kind_at t)) is_current)))
