-- Why a poll does what it does: it shows a head that is there, waits for one, reads, or carries out the plan of a
-- consumer that is bound to nothing.
use Rattle.std.{proofs.{lemmas.Bool.Decides.{nat_tests}, Common.{arith, ◌≡◌, ℕ, Bool, true, false, Option, Some, None, refl, ap, sym, ◌∙◌}}, specs.{Prelude.{if◌then◌else◌}, Option.{option_and_then}}}
use Rattle.hc_text.proofs.Basics.{cond_false}
use Rattle.hc_effects.proofs.Vocabulary.{Cause, Place, is_headless, Move, Nothing, Fails, planned_move, shows_at, shows_head, if_headless, waits_for_head, or_else, by_place, move_of, bound_to, own_open, Tables, Consumer, Sound, reading, wait, place}
use Rattle.hc_model.specs.Moves as moves
use Rattle.hc_effects.proofs.MoveWords.{never_plans}

-- it has no open exchange that waits for its head
abbrev pub IsHeard : Tables → Consumer → Type 0
IsHeard t k = option_and_then (if_headless t) (own_open t k) ≡ None

pub data MoveBy (t : Tables) (now want c : ℕ) (k : Consumer) : Move → Type 0 where
  shows : (m : Move) → k.shown ≡ false → shows_at t k k.place ≡ Some m → MoveBy t now want c k m
  waits : (x : ℕ) → own_open t k ≡ Some x → is_headless (t.exchange x) ≡ true → MoveBy t now want c k (moves.Waits (wait.Head x))
  down : (cause : Cause) → k.place ≡ place.Down cause → MoveBy t now want c k (Fails cause)
  over : k.place ≡ place.Over → MoveBy t now want c k Nothing
  reads : k.shown ≡ true → IsHeard t k → MoveBy t now want c k (reading t want c k)
  plans : k.shown ≡ false → bound_to k.place ≡ None → shows_at t k k.place ≡ None → IsHeard t k → MoveBy t now want c k (planned_move t now c k)

module _ (t : Tables) (now want c : ℕ) (k : Consumer) where
  shows_of : (p : Place) → k.place ≡ p → k.shown ≡ false → shows_head t k ≡ None → shows_at t k p ≡ None
  shows_of p at shown none = sym (cond_false k.shown None (shows_at t k k.place) shown ∙ ap (shows_at t k) at) ∙ none

  free : (p : Place) → Sound t → t.consumer c ≡ Some k → k.place ≡ p → k.shown ≡ false → shows_head t k ≡ None → IsHeard t k → bound_to p ≡ None
  free (place.Bound r lo hi how) s row at shown none heard = absurd (never_plans t k r lo hi how at shown (s.unshown c r lo hi how k row at shown) none heard)
  free _ s row at shown none heard = refl

  other_by : (b : Bool) → Sound t → t.consumer c ≡ Some k → k.shown ≡ b → shows_head t k ≡ None → IsHeard t k →
      MoveBy t now want c k (if b then reading t want c k else planned_move t now c k)
  other_by true s row shown none heard = reads shown heard
  other_by false s row shown none heard = plans shown (free k.place s row refl shown none heard) (shows_of k.place refl shown none) heard

  place_by : (p : Place) → Sound t → t.consumer c ≡ Some k → k.place ≡ p → shows_head t k ≡ None → IsHeard t k →
      MoveBy t now want c k (by_place t now want c k p)
  place_by (place.Down cause) s row at none heard = down cause at
  place_by place.Over s row at none heard = over at
  place_by _ s row at none heard = other_by k.shown s row refl none heard

  if_waits : (o : Option ℕ) (x : ℕ) → option_and_then (if_headless t) o ≡ Some x → (o ≡ Some x) × (is_headless (t.exchange x) ≡ true)
  if_waits o x is = grind (arith, nat_tests)

  waits_by : (o : Option ℕ) → Sound t → t.consumer c ≡ Some k → option_and_then (if_headless t) (own_open t k) ≡ o → shows_head t k ≡ None →
      MoveBy t now want c k (or_else (waits_for_head o) (by_place t now want c k k.place))
  waits_by None s row is none = place_by k.place s row refl none is
  waits_by (Some x) s row is none = let all = if_waits (own_open t k) x is in waits x all.0 all.1

  shown_by : (o : Option Move) → Sound t → t.consumer c ≡ Some k → shows_head t k ≡ o →
      MoveBy t now want c k (or_else o (or_else (waits_for_head (option_and_then (if_headless t) (own_open t k))) (by_place t now want c k k.place)))
  shown_by None s row is = waits_by (option_and_then (if_headless t) (own_open t k)) s row refl is
  shown_by (Some m) s row is = by_shown k.shown refl
    where
      by_shown : (b : Bool) → k.shown ≡ b → MoveBy t now want c k m
      by_shown true shown = absurd (let never : None ≡ Some m = rw shown at is in cc)
      by_shown false shown = shows m shown (sym (cond_false k.shown None (shows_at t k k.place) shown) ∙ is)

  pub move_by : Sound t → t.consumer c ≡ Some k → MoveBy t now want c k (move_of t now want c k)
  move_by s row = shown_by (shows_head t k) s row refl
