-- What is kept of a consumer's key where it is in line again, leaves or takes the turn; other keys say the same.
--
-- A key keeps who is in line, has passed, or is away, and who holds the turn. The tables say this of a consumer by its
-- place and request, and of another key than its own nothing (`says_elsewhere`). Each step of the code changes the
-- membership of one number in three lists, and the holder, just as the consumer's new row does. For the turn, nobody
-- may have held it before (`holds_key`).
use Rattle.std.{proofs.{Common.{◌≡◌, inl, inr, ℕ, List, Bool, true, false, cond, eqb, Option, Some, None, refl, ap, sym, ◌∙◌, arith}, lemmas.Bool.Decides.{nat_tests}}, specs.Prelude.{bytes_eq, ◌&&◌, ◌||◌, not}}
use Rattle.hc_text.proofs.{Basics.{eqb-other, eqb-same, false_true, same_or, and_off as then_false}, SortedLemmas.{has-with, has-without}}
use Rattle.hc_entry.specs.Kept as keyed
use Rattle.hc_entry.specs.{Kept.{on_line}, Lines.{is_held_by, holder_without, come_back, held_by, left_by, gone_away, line_after_pass}}
use Rattle.hc_text.specs.Sorted.{is_among, itself, with_item, without}
use Rattle.hc_effects.proofs.Vocabulary.{is_disabled, is_only, is_in_line, stands_in_line, holds_place, has_passed, Tables, place}
use Rattle.hc_effects.proofs.Tests.{and_false}
use Rattle.hc_rules.proofs.RangeReads.{bytes_eq-same}
use Rattle.hc_model.specs.Rows as rows
use Rattle.hc_state.specs.Lines.{KeepsKey, has_turn, is_passed, is_away, is_away_at}
use Rattle.hc_state.proofs.ConsumerSteps.{KeyAfter, SaysOfIt, at_it}

-- WHAT IS SAID OF IT

pub off_line : (key : List ℕ) (k : rows.Consumer) → bytes_eq k.request.key key ≡ false → is_in_line key (Some k) ≡ false
off_line key k off = grind (arith, nat_tests)

pub off_passed : (key : List ℕ) (k : rows.Consumer) → bytes_eq k.request.key key ≡ false → is_passed key (Some k) ≡ false
off_passed key k off = and_false (bytes_eq k.request.key key) (has_passed k.place) off

pub off_away : (t : Tables) (key : List ℕ) (k : rows.Consumer) → bytes_eq k.request.key key ≡ false → is_away t key (Some k) ≡ false
off_away t key k off = and_false (bytes_eq k.request.key key) (is_away_at t k.place) off

pub off_turn : (key : List ℕ) (k : rows.Consumer) → bytes_eq k.request.key key ≡ false → has_turn key (Some k) ≡ false
off_turn key k off = and_false (is_in_line key (Some k)) (holds_place k.place) (off_line key k off)

-- nothing is said of it for another key
pub says_elsewhere : (t : Tables) (c : ℕ) (v w : rows.Consumer) (key : List ℕ) → t.consumer c ≡ Some v → w.request ≡ v.request →
    bytes_eq v.request.key key ≡ false → SaysOfIt t c (Some w) key
says_elsewhere t c v w key row same off =
    let off_then : bytes_eq w.request.key key ≡ false = rw same off in
    record {
      in_line = off_line key w off_then ∙ sym (ap (is_in_line key) row ∙ off_line key v off);
      passed = off_passed key w off_then ∙ sym (ap (is_passed key) row ∙ off_passed key v off);
      away = off_away t key w off_then ∙ sym (ap (is_away t key) row ∙ off_away t key v off);
      turn = off_turn key w off_then ∙ sym (ap (has_turn key) row ∙ off_turn key v off);
    }

-- it stands in the line of its key
pub lined : (k : rows.Consumer) → stands_in_line k.place ≡ true → is_disabled k.request ≡ false → is_only k.request ≡ false →
    is_in_line k.request.key (Some k) ≡ true
lined k at cached asks = rw (bytes_eq-same k.request.key k.request.key refl, at, cached, asks) refl

-- who goes past the store, or is for what is stored alone, stands in none
pub unlined : (key : List ℕ) (k : rows.Consumer) → (not (is_disabled k.request) && not (is_only k.request)) ≡ false → is_in_line key (Some k) ≡ false
unlined key k off = grind (arith, nat_tests)

-- who stands elsewhere, neither
pub not_lined : (key : List ℕ) (k : rows.Consumer) → stands_in_line k.place ≡ false → is_in_line key (Some k) ≡ false
not_lined key k off = grind (arith, nat_tests)

-- NOTHING IS SAID OF IT

pub record IsUnsaid (t : Tables) (key : List ℕ) (o : Option rows.Consumer) : Type 0 where
  pub in_line : is_in_line key o ≡ false
  pub passed : is_passed key o ≡ false
  pub away : is_away t key o ≡ false
  pub turn : has_turn key o ≡ false

-- nor was anything
pub says_none : (t : Tables) (c : ℕ) (v w : rows.Consumer) (key : List ℕ) → t.consumer c ≡ Some v → IsUnsaid t key (Some v) → IsUnsaid t key (Some w) →
    SaysOfIt t c (Some w) key
says_none t c v w key row was now = record {
  in_line = now.in_line ∙ sym (ap (is_in_line key) row ∙ was.in_line);
  passed = now.passed ∙ sym (ap (is_passed key) row ∙ was.passed);
  away = now.away ∙ sym (ap (is_away t key) row ∙ was.away);
  turn = now.turn ∙ sym (ap (has_turn key) row ∙ was.turn);
}

-- who stands elsewhere waits for no key
pub apart_unsaid : (t : Tables) (key : List ℕ) (w : rows.Consumer) → stands_in_line w.place ≡ false → has_passed w.place ≡ false →
    is_away_at t w.place ≡ false → IsUnsaid t key (Some w)
apart_unsaid t key w off unpassed here =
    let line : is_in_line key (Some w) ≡ false = not_lined key w off in
    record {
      in_line = line;
      passed = then_false (bytes_eq w.request.key key) (has_passed w.place) unpassed;
      away = then_false (bytes_eq w.request.key key) (is_away_at t w.place) here;
      turn = and_false (is_in_line key (Some w)) (holds_place w.place) line;
    }

-- who goes past the store, or is for what is stored alone, waits for none as it stands in line
pub unqueued_unsaid : (t : Tables) (key : List ℕ) (v : rows.Consumer) → v.place ≡ place.Line →
    (not (is_disabled v.request) && not (is_only v.request)) ≡ false → IsUnsaid t key (Some v)
unqueued_unsaid t key v at off =
    let line : is_in_line key (Some v) ≡ false = unlined key v off in
    record {
      in_line = line;
      passed = then_false (bytes_eq v.request.key key) (has_passed v.place) (ap has_passed at);
      away = then_false (bytes_eq v.request.key key) (is_away_at t v.place) (ap (is_away_at t) at);
      turn = and_false (is_in_line key (Some v)) (holds_place v.place) line;
    }

-- WHAT IS KEPT THEN

without_is : (c : ℕ) (cs : List ℕ) (d : ℕ) → is_among d (without itself c cs) ≡ cond (eqb c d) false (is_among d cs)
without_is c cs d = has-without itself d c cs ∙ grind (arith, nat_tests)

with_is : (c : ℕ) (cs : List ℕ) (d : ℕ) → is_among d (with_item itself c (without itself c cs)) ≡ cond (eqb c d) true (is_among d cs)
with_is c cs d = grind (arith, nat_tests, has-with, itself, without, without_is)

released_is : (c : ℕ) (h : Option ℕ) (d : ℕ) → is_held_by d (holder_without c h) ≡ cond (eqb c d) false (is_held_by d h)
released_is c h d = grind (arith, nat_tests)

module _ (t : Tables) (c : ℕ) (row : Option rows.Consumer) (key : List ℕ) (a : keyed.Kept) where
  -- where it is among the others, and where it isn't
  among : (cs : List ℕ) {b : Bool} → b ≡ true → (d : ℕ) → is_among d (with_item itself c (without itself c cs)) ≡ cond (eqb c d) b (is_among d cs)
  among cs on d = with_is c cs d ∙ ap (λ (b : Bool). cond (eqb c d) b (is_among d cs)) (sym on)

  apart : (cs : List ℕ) {b : Bool} → b ≡ false → (d : ℕ) → is_among d (without itself c cs) ≡ cond (eqb c d) b (is_among d cs)
  apart cs off d = without_is c cs d ∙ ap (λ (b : Bool). cond (eqb c d) b (is_among d cs)) (sym off)

  freed : {b : Bool} → b ≡ false → (d : ℕ) → is_held_by d (holder_without c a.holder) ≡ cond (eqb c d) b (is_held_by d a.holder)
  freed off d = released_is c a.holder d ∙ ap (λ (b : Bool). cond (eqb c d) b (is_held_by d a.holder)) (sym off)

  -- it is in line, and doesn't hold the turn
  pub comes_back : is_in_line key row ≡ true → is_passed key row ≡ false → is_away t key row ≡ false → has_turn key row ≡ false →
      KeyAfter t c row key a (on_line (come_back c) a)
  comes_back line passed away turn =
      assumption (among a.in_line line, apart a.passed passed, apart a.away away, freed turn)

  -- it has passed
  pub passes_key : is_in_line key row ≡ false → is_passed key row ≡ true → is_away t key row ≡ false → has_turn key row ≡ false →
      KeyAfter t c row key a (on_line (line_after_pass c) a)
  passes_key line passed away turn =
      assumption (apart a.in_line line, among a.passed passed, apart a.away away, freed turn)

  -- it waits for the key no more
  pub leaves_key : is_in_line key row ≡ false → is_passed key row ≡ false → is_away t key row ≡ false → has_turn key row ≡ false →
      KeyAfter t c row key a (on_line (left_by c) a)
  leaves_key line passed away turn =
      assumption (apart a.in_line line, apart a.passed passed, apart a.away away, freed turn)

  -- it is away
  pub away_key : is_in_line key row ≡ false → is_passed key row ≡ false → is_away t key row ≡ true → has_turn key row ≡ false →
      KeyAfter t c row key a (on_line (gone_away c) a)
  away_key line_off passed away turn =
      assumption (apart a.in_line line_off, apart a.passed passed, among a.away away, freed turn)

  -- it holds the turn, which nobody held
  pub holds_key : KeepsKey t key a → a.holder ≡ None → is_in_line key (t.consumer c) ≡ true → is_passed key (t.consumer c) ≡ false →
      is_away t key (t.consumer c) ≡ false
      → is_in_line key row ≡ true → is_passed key row ≡ false → is_away t key row ≡ false → has_turn key row ≡ true →
      KeyAfter t c row key a (on_line (held_by c) a)
  holds_key kept free was unpassed here line passed away turn = record {
    current = refl;
    in_line = at_it t c row (λ d. is_among d a.in_line) _ (kept.in_line c ∙ (was ∙ sym line));
    passed = at_it t c row (λ d. is_among d a.passed) _ (kept.passed c ∙ (unpassed ∙ sym passed));
    away = at_it t c row (λ d. is_among d a.away) _ (kept.away c ∙ (here ∙ sym away));
    holder = λ d. by_test d (eqb c d) ∙ ap (λ b. cond (eqb c d) b (is_held_by d a.holder)) (sym turn);
  }
    where
      by_test : (d : ℕ) (b : Bool) → b ≡ cond b true (is_held_by d a.holder)
      by_test d true = refl
      by_test d false = rw free refl
