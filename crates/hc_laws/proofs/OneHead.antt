-- Over a whole run, a consumer is shown one head at most, and given nothing before that.
use Rattle.std.{proofs.{lemmas.Bool.Decides.{nat_tests}, Common.{◌≡◌, ℕ, ◌≤◌, List, [], ◌∷◌, ◌++◌, length, Bool, true, false, Option, Some, None, refl, ap, sym, ◌∙◌, subst, arith, length-append}}, specs.{Prelude.{not, is_none}, Option.{option_map_or}}}
use Rattle.hc_effects.proofs.Vocabulary.{is_denied, given_in, Limits, Entry, History, Contents, flaw_in, Shown, first, shown_in, shown_of, given_of, Tables, Consumer, IsRun, IsOwed, tables}
use Rattle.hc_model.specs.Reads.{OneHeadIsShown}
use Rattle.hc_effects.proofs.{Owed.{acts_are, denied_gives, denied_shows}, ReadFilters.{consumers_are_filtered, far_owed}, Runs.{by_entries}, ShownOnce.{IsShownWell, by_event, no_first, unshown_of}}

-- what holds of the list so far
record IsWell (shown : List Shown) (given : List ℕ) : Type 0 where
  one : length shown ≤ 1
  before : shown ≡ [] → given ≡ []

append_none : {A : Type 0} (xs ys : List A) → (xs ++ ys) ≡ [] → (xs ≡ []) × (ys ≡ [])
append_none [] ys h = (refl, h)
append_none (x ∷ xs) ys h = absurd (let never : (x ∷ (xs ++ ys)) ≡ [] = h in cc)

both_none : {A : Type 0} (xs ys : List A) → xs ≡ [] → ys ≡ [] → (xs ++ ys) ≡ []
both_none xs ys a b = rw (a, b) refl

-- an entry that shows nothing more, and gives nothing where none was shown
well_quiet : (shown more : List Shown) (given bytes : List ℕ) → IsWell shown given → more ≡ [] → (shown ≡ [] → bytes ≡ []) →
    IsWell (shown ++ more) (given ++ bytes)
well_quiet shown more given bytes w none quiet = grind (arith, nat_tests, length-append, length, append_none, both_none)

-- one where none was shown before, and that gives nothing
well_first : (shown more : List Shown) (given bytes : List ℕ) → IsWell shown given → shown ≡ [] → length more ≤ 1 → bytes ≡ [] →
    IsWell (shown ++ more) (given ++ bytes)
well_first shown more given bytes w none few quiet = grind (arith, nat_tests)

module _ (limits : Limits) (contents : Contents) (h : History) (e : Entry) (c : ℕ) (run : IsRun limits contents h)
    (owed : IsOwed limits (tables contents h) e) where
  abbrev t : Tables
  t = tables contents h

  filtered : (o : Option Consumer) → t.consumer c ≡ o → option_map_or (λ (k : Consumer). not k.shown) o true ≡ is_none (first (shown_of c h))
  filtered o row = ap (λ (z : Option Consumer). option_map_or (λ (k : Consumer). not k.shown) z true) (sym row) ∙
      (consumers_are_filtered limits contents h run).shown c

  acts_well : is_denied e.acts ≡ false → IsShownWell t c e.acts
  acts_well accepted = subst (IsShownWell t c) (sym (acts_are limits t e owed accepted)) (by_event limits t e.now c (flaw_in e.acts) e.event)

  by_shown : (k : Consumer) (b : Bool) → t.consumer c ≡ Some k → k.shown ≡ b → is_denied e.acts ≡ false → IsWell (shown_of c h) (given_of c h) →
      IsWell (shown_of c h ++ shown_in c e.acts) (given_of c h ++ given_in c e.acts)
  by_shown k true row shown accepted w =
      well_quiet (shown_of c h) (shown_in c e.acts) (given_of c h) (given_in c e.acts) w ((acts_well accepted).again k row shown) (λ none.
      absurd (let no : false ≡ true = (sym (ap not shown) ∙ (filtered (Some k) row ∙ ap (λ (xs : List Shown). is_none (first xs)) none)) in cc))
  by_shown k false row shown accepted w =
      let none : shown_of c h ≡ [] = no_first (shown_of c h) (sym (filtered (Some k) row) ∙ ap not shown) in
      well_first (shown_of c h) (shown_in c e.acts) (given_of c h) (given_in c e.acts) w none (acts_well accepted).one ((acts_well accepted).before k row shown)

  by_row : (o : Option Consumer) → t.consumer c ≡ o → is_denied e.acts ≡ false → IsWell (shown_of c h) (given_of c h) →
      IsWell (shown_of c h ++ shown_in c e.acts) (given_of c h ++ given_in c e.acts)
  by_row None row accepted w =
      let far = far_owed limits t e c owed accepted row in
      well_quiet (shown_of c h) (shown_in c e.acts) (given_of c h) (given_in c e.acts) w (unshown_of c e.acts far) (λ none. far.gives)
  by_row (Some k) row accepted w = by_shown k k.shown row refl accepted w

  by_denial : (b : Bool) → is_denied e.acts ≡ b → IsWell (shown_of c h) (given_of c h) →
      IsWell (shown_of c h ++ shown_in c e.acts) (given_of c h ++ given_in c e.acts)
  by_denial true denied w =
      well_quiet (shown_of c h) (shown_in c e.acts) (given_of c h) (given_in c e.acts) w (denied_shows c e.acts denied) (λ none. denied_gives c e.acts denied)
  by_denial false denied w = by_row (t.consumer c) refl denied w

well : (limits : Limits) (contents : Contents) (h : History) (c : ℕ) → IsRun limits contents h → IsWell (shown_of c h) (given_of c h)
well limits contents h c run =
    by_entries limits contents (λ h. IsWell (shown_of c h) (given_of c h)) (record { one = omega arith; before = λ h. refl })
    (λ h e run before. by_denial limits contents h e c run.0 run.1 (is_denied e.acts) refl before) h run

pub one_head_is_shown : OneHeadIsShown
one_head_is_shown limits contents h run c = let w = well limits contents h c run in (w.one, w.before)
