-- What a store begins with, and each entry keeps, holds of every run.
use Rattle.std.proofs.Common.{◌≡◌, ◌≤◌, ℕ, [], ◌∷◌, Bool, true, false, None, refl}
use Rattle.hc_effects.proofs.Vocabulary.{is_denied, Event, History, IsRun, Limits, may_begin, denial, Entry, Contents, Flaw, flaw_in, entry_of, OfRunsIn, Tables, IsOwed, Sound, tables, first_tables, after, after_accepted, after_denied}
use Rattle.hc_effects.proofs.{LossBy.{IsReal}, OfEntries.{of_real}, Runs.{by_entries}}
use Rattle.hc_laws.proofs.SoundRuns.{IsCarried, carried}

-- an accepted entry of a run
pub record IsStep (limits : Limits) (t : Tables) (now : ℕ) (flaw : Flaw) (ev : Event) : Type 0 where
  pub later : t.moment ≤ now
  pub before : IsCarried t
  pub going : denial t ev ≡ None
  pub real : IsReal limits t now ev flaw
  pub owed : IsOwed limits t (entry_of limits t now ev flaw)
  pub sound_then : Sound (after_accepted t (entry_of limits t now ev flaw))

-- What a run begins with, and each of its entries keeps, holds of every run: of its tables and of its history.
module _ (limits : Limits) (contents : Contents) (P : Tables → History → Type 0) where
  -- a denied entry leaves it
  abbrev pub DeniesOn : Type 0
  DeniesOn = (h : History) (e : Entry) → IsRun limits contents h → (tables contents h).moment ≤ e.now → is_denied e.acts ≡ true →
      P (tables contents h) h → P (after_denied (tables contents h) e) (e ∷ h)

  -- an accepted entry keeps it
  abbrev pub KeepsOn : Type 0
  KeepsOn = (h : History) (now : ℕ) (flaw : Flaw) (ev : Event) → IsRun limits contents h → IsStep limits (tables contents h) now flaw ev →
      P (tables contents h) h →
      P (after_accepted (tables contents h) (entry_of limits (tables contents h) now ev flaw)) (entry_of limits (tables contents h) now ev flaw ∷ h)

  module _ (may : may_begin limits contents ≡ true) (begins : P (first_tables contents) []) (denies : DeniesOn) (keeps : KeepsOn) where
    step : (h : History) (e : Entry) (b : Bool) → is_denied e.acts ≡ b → IsRun limits contents h → Sound (after (tables contents h) e) →
        IsOwed limits (tables contents h) e → P (tables contents h) h → P (after (tables contents h) e) (e ∷ h)
    unfolding after
    step h e true denied run sound_next owed holds = rw denied (denies h e run owed.later denied holds)
    step h e false not_denied run sound_next owed holds =
        let t = tables contents h in
        let sound_now : Sound (after_accepted t e) = rw not_denied at sound_next in
        rw not_denied (of_real limits t e (λ z. IsOwed limits t z → Sound (after_accepted t z) → P (after_accepted t z) (z ∷ h)) owed not_denied
        (λ going real owes then_sound.
        keeps h e.now (flaw_in e.acts) e.event run
        (record { later = owed.later; before = carried limits contents h may run; going = going; real = real; owed = owes; sound_then = then_sound })
        holds) owed sound_now)

    pub along : (h : History) → IsRun limits contents h → P (tables contents h) h
    unfolding tables
    along = by_entries limits contents (λ h. P (tables contents h) h) begins
        (λ h e run before. step h e (is_denied e.acts) refl run.0 (carried limits contents (e ∷ h) may run).is_sound run.1 before)

-- And so of what is said of the tables alone.
module _ (P : Limits → Tables → Type 0) where
  abbrev pub Begins : Type 0
  Begins = (limits : Limits) (contents : Contents) → may_begin limits contents ≡ true → P limits (first_tables contents)

  -- a denied entry leaves it
  abbrev pub Denies : Type 0
  Denies = (limits : Limits) (t : Tables) (e : Entry) → t.moment ≤ e.now → P limits t → P limits (after_denied t e)

  -- an accepted entry of a run keeps it
  abbrev pub Keeps : Type 0
  Keeps = (limits : Limits) (t : Tables) (now : ℕ) (flaw : Flaw) → t.moment ≤ now → IsCarried t → P limits t → (ev : Event) → denial t ev ≡ None →
      IsReal limits t now ev flaw → P limits (after_accepted t (entry_of limits t now ev flaw))

  -- and so where the tables before have what each run gives them
  abbrev pub KeepsWith : (Limits → Tables → Type 0) → Type 0
  KeepsWith Q = (limits : Limits) (t : Tables) (now : ℕ) (flaw : Flaw) (ev : Event) → IsStep limits t now flaw ev → Q limits t → P limits t →
      P limits (after_accepted t (entry_of limits t now ev flaw))

  module _ (Q : Limits → Tables → Type 0) (known : OfRunsIn Q) (begins : Begins) (denies : Denies) (keeps : KeepsWith Q) where
    pub in_runs_with : OfRunsIn P
    in_runs_with limits contents h may run =
        along limits contents (λ t h. P limits t) may (begins limits contents may)
        (λ h e before later denied holds. denies limits (tables contents h) e later holds)
        (λ h now flaw ev before s holds. keeps limits (tables contents h) now flaw ev s (known limits contents h may before) holds)
        h run

  pub in_runs : Begins → Denies → Keeps → OfRunsIn P
  in_runs begins denies keeps = in_runs_with (λ limits t. Unit {0}) (λ limits contents h may run. tt) begins denies
      (λ limits t now flaw ev s q holds. keeps limits t now flaw s.later s.before holds ev s.going s.real)
