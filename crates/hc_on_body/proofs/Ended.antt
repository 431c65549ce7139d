-- An exchange ended cleanly, where it promised a length: what is kept represents that as for one that is closed.
--
-- The tables differ in how it ended, which what is kept doesn't tell. So whatever doesn't look at that is told alike
-- (`reported_alike`): head, base, what is held, and keys. Where its body ends has the work: an exchange that is closed has
-- the promised end, and one that ended what came. Since it promised a length, both are told by that (`end_alike`).
-- `stands_ended` joins these for `ShortAnswers`; `WholeEnds` uses its parts.
use Rattle.std.{proofs.{Common.{◌≡◌, ℕ, ◌+◌, ◌-◌, List, [], length, Bool, true, false, Option, Some, None, refl, ap, sym, ◌∙◌, arith}, lemmas.Bool.Decides.{nat_tests}}, specs.{Prelude.{nat_eq, bytes_eq, drop, ◌==◌, ◌&&◌, if◌then◌else◌}, HashMap.{get}}}
use Rattle.hc_text.proofs.Basics.{false_true}
use Rattle.hc_effects.proofs.Vocabulary.{Limits, Place, current, is_number, over, at_end, base, family, promised_bytes, is_headless, absent_from, brings_to, offset, is_bound_place, base_in, end_in, end_of_direct, Tables, Exchange, Representation, place, by}
use Rattle.hc_store.specs.declared.backend.Backend.{Ghosts}
use Rattle.hc_stored.specs.Entries.{shelf_of}
use Rattle.hc_entry.specs.Keys.{kept_of}
use Rattle.hc_exch.specs.{declared.row.Open.{Open}, Exchanges.{table_of}}
use Rattle.hc_model.specs.Rows as rows
use Rattle.hc_state.specs.{Stored.{is_over}, declared.rows.Rows.{Rows}, Kept.{KeepsRunning, head_in, held_for, held_of, held_alone, unstored_bytes}, Lines.{is_away, is_away_at}, Stands.{RowsStand}}
use Rattle.hc_state.proofs.{Fallbacks.{same, held_alike}, Closing.{base_over, promise_over}, OneOfEach.{entries_same, growing_same}, PastRows.{consumer_alike}, Ties.{key_same, runs_same}}

pub base_end : (w : Exchange) → base (at_end w) ≡ base w
base_end w = grind (arith, nat_tests)

pub promise_end : (w : Exchange) → promised_bytes (at_end w) ≡ promised_bytes w
promise_end w = grind (arith, nat_tests)

-- the same, but that x ended cleanly, or was cut off
abbrev pub with_over : ℕ → Exchange → (ℕ → Option Exchange) → Tables → Tables
with_over x w f t = record t { exchange = λ y. if x == y then Some (over w) else f y }

abbrev pub with_end : ℕ → Exchange → (ℕ → Option Exchange) → Tables → Tables
with_end x w f t = record t { exchange = λ y. if x == y then Some (at_end w) else f y }

module _ (t : Tables) (f : ℕ → Option Exchange) (x : ℕ) (w : Exchange) where
  abbrev a : Tables
  a = with_over x w f t

  abbrev z : Tables
  z = with_end x w f t

  -- what doesn't look at how it ended is told as before
  pub reported_alike : {A : Type 0} (h : Option Exchange → A) → h (Some (at_end w)) ≡ h (Some (over w)) → (y : ℕ) → h (z.exchange y) ≡ h (a.exchange y)
  reported_alike h ends_as y = by_test (nat_eq x y)
    where
      by_test : (b : Bool) → h (if b then Some (at_end w) else f y) ≡ h (if b then Some (over w) else f y)
      by_test true = ends_as
      by_test false = refl

  base_alike : base (at_end w) ≡ base (over w)
  base_alike = base_end w ∙ sym (base_over w)

  end_alike : (p : ℕ) → promised_bytes w ≡ Some p → end_in (Some (at_end w)) ≡ end_in (Some (over w))
  end_alike p is =
      ap (λ o. end_of_direct o (at_end w)) (promise_end w ∙ is)
      ∙ (ap (λ n. Some (n + p)) base_alike
      ∙ sym (ap (λ o. end_of_direct o (over w)) (promise_over w ∙ is)))

  -- WHAT IS HELD

  unstored_end : (y : ℕ) (v : Representation) (o : Option rows.Consumer) → unstored_bytes a y (at_end w) v o ≡ unstored_bytes a y (over w) v o
  unstored_end y v None = refl
  unstored_end y v (Some k) =
      ap (λ (b : ℕ). if is_bound_place (family y w) k.place && is_number k.own y then
      drop (absent_from v.stored v.reach (offset a k) (b + length w.body) - b) w.body else []) base_alike

  alone_end : (y : ℕ) (v : Representation) (o : Option ℕ) → held_alone a y (at_end w) v o ≡ held_alone a y (over w) v o
  alone_end y v None = refl
  alone_end y v (Some c) = unstored_end y v (t.consumer c)

  of_end : (y : ℕ) (o : Option Representation) → held_of a y (at_end w) o ≡ held_of a y (over w) o
  of_end y None = refl
  of_end y (Some v) = alone_end y v v.alone

  held_same : (y : ℕ) (o : Option Exchange) → held_for z y o ≡ held_for a y o
  held_same y None = refl
  held_same y (Some u) = held_alike a z (λ d. same refl) y u refl

  pub held_end : (y : ℕ) → held_for z y (z.exchange y) ≡ held_for a y (a.exchange y)
  held_end y = reported_alike (held_for z y)
      (held_same y (Some (at_end w)) ∙ (of_end y (t.representation (family y w)) ∙ sym (held_same y (Some (over w))))) y ∙ held_same y (a.exchange y)

  pub runs_end : (y : ℕ) (b : Bool) (o : Option Open) → KeepsRunning a y o (if b then Some (over w) else f y) →
      KeepsRunning z y o (if b then Some (at_end w) else f y)
  runs_end y true None kept = refl
  runs_end y true (Some o) kept = false_true kept.is_open
  runs_end y false o kept = runs_same a z y o (f y) (λ u at. refl) kept

  -- KEYS

  pub away_end : (key : List ℕ) (o : Option rows.Consumer) → is_away z key o ≡ is_away a key o
  away_end key None = refl
  away_end key (Some k) = ap (λ b. bytes_eq k.request.key key && b) (by_place k.place)
    where
      by_place : (p : Place) → is_away_at z p ≡ is_away_at a p
      by_place (place.Bound r lo hi (by.FirstHole y)) = reported_alike is_headless refl y
      by_place _ = refl

-- ALL OF IT

module _ {B : Type 0} {g : Ghosts B} {limits : Limits} (u : Rows B g) (t : Tables) (f : ℕ → Option Exchange) (x : ℕ) (w : Exchange) (p : ℕ)
    (promises : promised_bytes w ≡ Some p) (stands : RowsStand limits u (with_over x w f t)) where
  pub stands_ended : RowsStand limits u (with_end x w f t)
  unfolding current
  stands_ended =
      let before : Tables = with_over x w f t in
      let after : Tables = with_end x w f t in
      record {
        limits = stands.limits;
        last_start = stands.last_start;
        next = stands.next;
        count = stands.count;
        consumers = λ d. consumer_alike before after
            (record {
              head = reported_alike t f x w head_in refl;
              begins = reported_alike t f x w base_in (base_alike t f x w);
              ends =
                  reported_alike t f x w end_in (end_alike t f x w p promises);
              length = λ q. refl;
            }) (get nat_eq u.consumers d) (t.consumer d) (stands.consumers d);
        exchanges = λ y. record {
          running = runs_end t f x w y (nat_eq x y) (table_of u.exchanges y).running (stands.exchanges y).running;
          held =
              (stands.exchanges y).held ∙ sym (held_end t f x w y);
        };
        keys = λ key. key_same before after key (kept_of u.keys key)
            (record { current = refl; in_line = λ d. refl; passed = λ d. refl; away = λ d. away_end t f x w key (t.consumer d); turn = λ d. refl })
            (stands.keys key);
        entries = entries_same before after (shelf_of u.entries) (λ q. refl) refl refl (λ q d. refl) (λ q d. refl)
            (λ q. growing_same before after q refl (λ y. reported_alike t f x w (brings_to q y) refl y)) (λ y on. reported_alike t f x w is_over refl y ∙ on)
            stands.entries;
      }
