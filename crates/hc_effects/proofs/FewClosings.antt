-- Where no head is refused, nothing doomed and no writing lost, just what somebody leaves is closed; and nothing makes
-- room where nothing is written.
use Rattle.std.{proofs.{lemmas.Bool.Decides.{nat_tests}, Common.{arith, ◌≡◌, ℕ, List, [], ◌∷◌, Bool, false, Option, Some, None, refl, ap, ◌∙◌}}, specs.Prelude.{◌&&◌, ◌||◌, filter, reverse}}
use mathlib.Core.Path.{fun_ext}
use Rattle.hc_effects.proofs.Vocabulary.{Event, Limits, Write, case_at, closing, closes_row, must_close, is_refused, is_doomed, has_no_survivor, is_left, leaver, brings_head, doomed_key_of, Entry, entry_without_acts, exchange_heard, family, Tables, Exchange, Representation, evicted, first_idle, room_by, room_for, write_in, brings_body, loses_group}
use Rattle.hc_effects.proofs.Tests.{and_false}

pub record ClosesLittle (t : Tables) (e : Entry) : Type 0 where
  pub unrefused : (x : ℕ) → (is_refused (case_at t e) && brings_head x e.event) ≡ false
  pub undoomed : (x : ℕ) (w : Exchange) → is_doomed t e x w ≡ false
  pub survives : (x r : ℕ) → has_no_survivor t e x r (t.representation r) ≡ false

-- so where no writing is lost
pub nothing_lost : (t : Tables) (e : Entry) → ((r : ℕ) (v : Representation) → t.representation r ≡ Some v → loses_group t e r v ≡ false) → (x r : ℕ) →
    has_no_survivor t e x r (t.representation r) ≡ false
nothing_lost t e unlost x r = grind (arith, nat_tests)

-- so at an event that brings neither a head nor a piece, and dooms nothing
pub quiet_closes : (t : Tables) (e : Entry) → case_at t e ≡ None → doomed_key_of t e ≡ None → brings_body e.event ≡ false → ClosesLittle t e
quiet_closes t e caseless doomless bodiless = grind (arith, nat_tests)

pub filter_none : (xs : List ℕ) → filter (λ x. false) xs ≡ []
filter_none [] = refl
filter_none (x ∷ xs) = filter_none xs

module _ (t : Tables) (e : Entry) (little : ClosesLittle t e) where
  must_by : (a b c d : Bool) → a ≡ false → b ≡ false → c ≡ false → (a || b || c || d) ≡ d
  must_by a b c d p q r = rw (p, q, r) refl

  pub must_as : (x : ℕ) (w : Exchange) → must_close t e x w ≡ is_left t x (leaver e)
  must_as x w = must_by (is_refused (case_at t e) && brings_head x e.event) (is_doomed t e x w)
      (has_no_survivor t e x (family x w) (t.representation (family x w))) (is_left t x (leaver e)) (little.unrefused x) (little.undoomed x w)
      (little.survives x (family x w))

  none_row : leaver e ≡ None → (x : ℕ) (o : Option Exchange) → closes_row t e x o ≡ false
  none_row none x None = refl
  none_row none x (Some w) = and_false (must_close t e x w) (exchange_heard t e x e.event w).is_open (must_as x w ∙ ap (is_left t x) none)

  -- nothing, where nobody leaves
  pub closes_nothing : leaver e ≡ None → closing t e ≡ []
  unfolding closing
  closes_nothing none = ap (λ (test : ℕ → Bool). filter test (reverse t.openings)) (fun_ext (λ x. none_row none x (t.exchange x))) ∙
      filter_none (reverse t.openings)

-- what writes nothing evicts nothing
pub evicts_nothing : (limits : Limits) (t : Tables) (now : ℕ) (ev : Event) → write_in t (entry_without_acts now ev) ev ≡ None → evicted limits t now ev ≡ []
unfolding room_for
evicts_nothing limits t now ev none = ap (λ (o : Option Write). first_idle t (entry_without_acts now ev) (room_by limits t (entry_without_acts now ev) o)) none
