-- An event opens one exchange at most, the next. So no more were opened than events came.
use Rattle.std.{proofs.Common.{◌≡◌, ◌≤◌, ◌+◌, ◌-◌, Bool, true, false, [], ◌∷◌, length, Option, Some, None, refl, ap, sym, ◌∙◌, arith}, specs.Prelude.{if◌then◌else◌}}
use Rattle.hc_effects.proofs.Vocabulary.{Opening, opening_in, is_denied, Limits, Entry, flaw_in, entry_of, Tables, IsOwed, Sound, tables, after_accepted, opened_after}
use Rattle.hc_model.specs.Live.{OpeningsAreCounted}
use Rattle.hc_effects.proofs.{NumbersKeep.{opens_next}, Owed.{goes, acts_are}}
use Rattle.hc_laws.proofs.RunFacts.{along}

module _ (limits : Limits) (t : Tables) (s : Sound t) (e : Entry) (is : IsOwed limits t e) where
  next : is_denied e.acts ≡ false → (o : Opening) → opening_in e.acts ≡ Some o → o.x ≡ t.opened + 1
  next accepted o opens =
      opens_next limits t e.now (flaw_in e.acts) s e.event o (goes limits t e is accepted)
      (ap opening_in (sym (acts_are limits t e is accepted)) ∙ opens)

  by_opening : (o : Option Opening) → ((q : Opening) → o ≡ Some q → q.x ≡ t.opened + 1) → opened_after o t.opened ≤ t.opened + 1
  by_opening None each = omega arith
  by_opening (Some q) each = let is_next : q.x ≡ t.opened + 1 = each q refl in omega arith

  one_at_most : is_denied e.acts ≡ false → (after_accepted t e).opened ≤ t.opened + 1
  one_at_most accepted = by_opening (opening_in e.acts) (next accepted)

pub openings_counted : OpeningsAreCounted
openings_counted limits contents h may run =
    along limits contents (λ t h. t.opened ≤ contents.next_exchange - 1 + length h) may
    (omega arith)
    (λ h e run later denied before. omega (arith, before))
    (λ h now flaw ev run s before.
    let t = tables contents h in
    let one : (after_accepted t (entry_of limits t now ev flaw)).opened ≤ t.opened + 1 =
    one_at_most limits t s.before.is_sound (entry_of limits t now ev flaw) s.owed s.real.taken in
    omega (arith, before, one))
    h run
