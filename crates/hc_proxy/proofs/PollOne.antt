-- One poll, as the loop notes it.
use Rattle.std.{proofs.Common.{◌≡◌, ℕ, Bool, true, false, List, [], ◌∷◌, ◌++◌, length, drop, refl, ap, sym, ◌∙◌}, specs.Prelude.{◌||◌, not}}
use Rattle.hc_effects.proofs.Vocabulary.{Act, event}
use Rattle.hc_store.specs.declared.backend.Backend.{Ghosts}
use Rattle.hc_proxy.specs.declared.proxy.Proxy as loop
use Rattle.hc_proxy.specs.{Keeping.{Frame, Stepped, PolledBy}, Rows.{Proxy}, Waiting.{pends}}

drop_first : (xs ys : List Act) → drop (length xs) (xs ++ ys) ≡ ys
drop_first [] ys = refl
drop_first (x ∷ xs) ys = drop_first xs ys

-- the acts that were appended
pub appended : (first : ℕ) (old new more : List Act) → first ≡ length old → new ≡ old ++ more → drop first new ≡ more
appended first old new more is reported = ap (λ (n : ℕ). drop n new) is ∙ (ap (drop (length old)) reported ∙ drop_first old more)

or_false : (a : Bool) → a ≡ (a || false)
or_false true = refl
or_false false = refl

or_true : (a : Bool) → true ≡ (a || true)
or_true true = refl
or_true false = refl

module _ {B : Type 0} {g : Ghosts B} (f : Frame) (x x' : loop.Proxy B g) (c : ℕ) (p : Proxy) (s : Stepped f x x' (event.Poll c 16384) p) where
  -- it waits
  pub polled_waits : (moved : x'.moved ≡ x.moved) → pends s.e.acts ≡ true → PolledBy f x x' c p
  polled_waits moved waits = record { stepped = s; moved = moved ∙ (or_false x.moved ∙ ap (λ (b : Bool). x.moved || not b) (sym waits)) }

  -- or something happened
  pub polled_moves : pends s.e.acts ≡ false → PolledBy f x (record x' { moved = true }) c p
  polled_moves goes_on = record {
    stepped = record {
      e = s.e;
      now = s.now;
      event_is = s.event_is;
      is_owed = s.is_owed;
      acts = s.acts;
      cache = record {
        setting = s.cache.setting;
        stands = s.cache.stands;
        same = s.cache.same;
        limits = s.cache.limits;
        now = s.cache.now;
        early = s.cache.early;
        last = s.cache.last;
        starts = s.cache.starts;
        front = s.cache.front;
        last_start = s.cache.last_start;
        text = s.cache.text;
        recorded = s.cache.recorded;
        before = s.cache.before;
        unopened = s.cache.unopened;
        headed = s.cache.headed;
        small = s.cache.small;
        bounded = s.cache.bounded;
        room = s.cache.room;
        targets = s.cache.targets;
        timed = s.cache.timed;
      };
      later = s.later;
      same = s.same;
    };
    moved = or_true x.moved ∙ ap (λ (b : Bool). x.moved || not b) (sym goes_on);
  }
