-- Who waits for a key that is doomed: where it stood, and that it is bound to nothing once it starts over.
--
-- A consumer isn't there, waits for the key and is kept in its line, stands beside that line, or doesn't wait for the
-- key (`Stood`). Its place tells which (`by_place`): it waits in line, with the turn, let through, or before a first
-- hole. By the laws such a request waits with others. So whoever is kept in the line waits (`waits_of`), and starts
-- over (`starts_over`). The other files on dooms use these.
use Rattle.std.{proofs.{lemmas.Bool.Decides.{nat_tests}, Common.{arith, ◌≡◌, ℕ, List, Bool, true, false, Option, Some, None, refl, ap, sym, ◌∙◌}}, specs.Prelude.{bytes_eq, not, option_map, ◌&&◌, ◌||◌}}
use Rattle.hc_text.proofs.Basics.{false_true, and_off as then_false}
use Rattle.hc_effects.proofs.Vocabulary.{is_disabled, is_only, Place, back_in_line, is_live_place, sent_back, is_headless, Lawful, is_in_line, Queues, Tables, waits_at, place, by}
use Rattle.hc_rules.proofs.RangeReads.{same_bytes, bytes_eq-same}
use Rattle.hc_model.specs.Rows as rows
use Rattle.hc_state.specs.Lines.{is_passed, is_away}

pub bytes-flip : (a b : List ℕ) → bytes_eq a b ≡ bytes_eq b a
bytes-flip a b = grind (arith, nat_tests, bytes_eq-same, same_bytes)

-- WHERE ONE STOOD

module _ (t : Tables) (key : List ℕ) where
  -- it stands in line for the key, has passed, or is away
  abbrev pub stands_for : Option rows.Consumer → Bool
  stands_for z = is_in_line key z || is_passed key z || is_away t key z

  -- who isn't there; who waits for the key, and stands in its line or, going past the store or being for what is stored
  -- alone, beside it; and who doesn't wait for it
  pub data Stood (z : Option rows.Consumer) : Type 0 where
    nobody : z ≡ None → Stood z
    back : (k : rows.Consumer) → z ≡ Some k → bytes_eq key k.request.key ≡ true → waits_at t k.place ≡ true → stands_for z ≡ true → Stood z
    beside : (k : rows.Consumer) → z ≡ Some k → bytes_eq key k.request.key ≡ true → k.place ≡ place.Line → stands_for z ≡ false → Stood z
    stays : (k : rows.Consumer) → z ≡ Some k → (bytes_eq key k.request.key && waits_at t k.place) ≡ false → stands_for z ≡ false → Stood z

  -- of another key
  other_key : (k : rows.Consumer) (z : Option rows.Consumer) → z ≡ Some k → bytes_eq k.request.key key ≡ false → Stood z
  other_key k z row off =
      let flipped : bytes_eq key k.request.key ≡ false = bytes-flip key k.request.key ∙ off in
      stays k row (rw flipped refl) (rw (row, off) refl)

  -- where it waits for nothing
  elsewhere : (k : rows.Consumer) (z : Option rows.Consumer) → z ≡ Some k → waits_at t k.place ≡ false → stands_for (Some k) ≡ false → Stood z
  elsewhere k z row off none = stays k row (then_false (bytes_eq key k.request.key) (waits_at t k.place) off) (ap stands_for row ∙ none)

  none_of : (b : Bool) (d o : Bool) → (((b && false && d && o) || (b && false)) || (b && false)) ≡ false
  none_of b d o = grind (arith, nat_tests)

  by_key : (k : rows.Consumer) (z : Option rows.Consumer) (b : Bool) → z ≡ Some k → bytes_eq k.request.key key ≡ b →
      (bytes_eq k.request.key key ≡ true → Stood z) → Stood z
  by_key k z false row off here = other_key k z row off
  by_key k z true row on here = here on

  at_line : (k : rows.Consumer) (z : Option rows.Consumer) → z ≡ Some k → k.place ≡ place.Line → bytes_eq k.request.key key ≡ true → Stood z
  at_line k z row at on = by_test (not (is_disabled k.request) && not (is_only k.request)) refl
    where
      flipped : bytes_eq key k.request.key ≡ true
      flipped = bytes-flip key k.request.key ∙ on

      stands_is : (d o : Bool) → ((((true && true) && d) && o) || (true && false)) || (true && false) ≡ (d && o)
      stands_is true true = refl
      stands_is true false = refl
      stands_is false o = refl

      is : stands_for z ≡ (not (is_disabled k.request) && not (is_only k.request))
      is = rw (row, on, at) (stands_is (not (is_disabled k.request)) (not (is_only k.request)))

      by_test : (b : Bool) → (not (is_disabled k.request) && not (is_only k.request)) ≡ b → Stood z
      by_test true queues = back k row flipped (rw at refl) (is ∙ queues)
      by_test false fallback = beside k row flipped at (is ∙ fallback)

  at_turn : (k : rows.Consumer) (z : Option rows.Consumer) (x : ℕ) → z ≡ Some k → k.place ≡ place.Turn x → Queues k → bytes_eq k.request.key key ≡ true →
      Stood z
  at_turn k z x row at queues on = back k row (bytes-flip key k.request.key ∙ on) (rw at refl) (rw (row, on, at, queues.cached, queues.asks) refl)

  at_passed : (k : rows.Consumer) (z : Option rows.Consumer) (r : ℕ) (held : Option ℕ) → z ≡ Some k → k.place ≡ place.Passed r held →
      bytes_eq k.request.key key ≡ true → Stood z
  at_passed k z r held row at on =
      back k row (bytes-flip key k.request.key ∙ on) (rw at refl) (rw (row, on, at) (by_tests (not (is_disabled k.request)) (not (is_only k.request))))
    where
      by_tests : (d o : Bool) → (((((true && false) && d) && o) || (true && true)) || (true && false)) ≡ true
      by_tests d o = refl

  at_hole : (k : rows.Consumer) (z : Option rows.Consumer) (r lo y : ℕ) (hi : Option ℕ) → z ≡ Some k → k.place ≡ place.Bound r lo hi (by.FirstHole y) →
      bytes_eq k.request.key key ≡ true → Stood z
  at_hole k z r lo y hi row at on = by_test (is_headless (t.exchange y)) refl
    where
      stands_is : (d o h : Bool) → (((((true && false) && d) && o) || (true && false)) || (true && h)) ≡ h
      stands_is d o h = refl

      is : stands_for z ≡ is_headless (t.exchange y)
      is = rw (row, on, at) (stands_is (not (is_disabled k.request)) (not (is_only k.request)) (is_headless (t.exchange y)))

      by_test : (b : Bool) → is_headless (t.exchange y) ≡ b → Stood z
      by_test true waits = back k row (bytes-flip key k.request.key ∙ on) (rw at waits) (is ∙ waits)
      by_test false heard = stays k row (then_false (bytes_eq key k.request.key) (waits_at t k.place) (rw at heard)) (is ∙ heard)

  by_place : Lawful t → (d : ℕ) (k : rows.Consumer) (p : Place) → t.consumer d ≡ Some k → k.place ≡ p → Stood (t.consumer d)
  by_place law d k place.Line row at = by_key k (t.consumer d) (bytes_eq k.request.key key) row refl (at_line k (t.consumer d) row at)
  by_place law d k (place.Turn x) row at =
      by_key k (t.consumer d) (bytes_eq k.request.key key) row refl (at_turn k (t.consumer d) x row at (law.places.turn_queues d x k row at))
  by_place law d k (place.Passed r held) row at = by_key k (t.consumer d) (bytes_eq k.request.key key) row refl (at_passed k (t.consumer d) r held row at)
  by_place law d k (place.Bound r lo hi (by.FirstHole y)) row at =
      by_key k (t.consumer d) (bytes_eq k.request.key key) row refl (at_hole k (t.consumer d) r lo y hi row at)
  by_place law d k _ row at = elsewhere k (t.consumer d) row (rw at refl) (rw at (none_of _ _ _))

  pub stood : Lawful t → (d : ℕ) → Stood (t.consumer d)
  stood law d = by_row (t.consumer d) refl
    where
      by_row : (z : Option rows.Consumer) → t.consumer d ≡ z → Stood (t.consumer d)
      by_row None row = nobody row
      by_row (Some k) row = by_place law d k k.place row refl

  -- WHERE IT STANDS THEN

  module _ (now : ℕ) (z : Option rows.Consumer) (k : rows.Consumer) (row : z ≡ Some k) where
    pub starts_over : bytes_eq key k.request.key ≡ true → waits_at t k.place ≡ true → option_map (sent_back t now key) z ≡ Some (back_in_line now k)
    starts_over on waits = rw (row, on, waits) refl

    pub stays_so : (bytes_eq key k.request.key && waits_at t k.place) ≡ false → option_map (sent_back t now key) z ≡ z
    stays_so off = rw row (rw off refl)

  -- whoever waits is live
  pub waiting_lives : (p : Place) → waits_at t p ≡ true → is_live_place p ≡ true
  waiting_lives p waits = grind (arith, nat_tests)

  -- who stands for it waits
  pub record Waits (z : Option rows.Consumer) : Type 0 where
    pub k : rows.Consumer
    pub row : z ≡ Some k
    pub of_key : bytes_eq key k.request.key ≡ true
    pub waits : waits_at t k.place ≡ true

  pub waits_of : (z : Option rows.Consumer) → Stood z → stands_for z ≡ true → Waits z
  waits_of z (nobody row) on = false_true (sym (ap stands_for row) ∙ on)
  waits_of z (back k row same waits stands) on = record { k = k; row = row; of_key = same; waits = waits }
  waits_of z (beside k row same at stands) on = false_true (sym stands ∙ on)
  waits_of z (stays k row off stands) on = false_true (sym stands ∙ on)
