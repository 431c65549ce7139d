-- A consumer that had passed is in line again: what is kept represents the tables then.
--
-- Who passed reads nothing, and so does who stands in line: by `falls_back` all but its row and its key stays. Its row
-- has another place alone, and no answer in either (`in_line_kept`). Its key has it in line again where it waits with
-- others (`stands_back`). One that stands in line already stays as it is (`stands_still`). `queue_again` has these two
-- cases; `becomes_by` is for all files that change one consumer.
use Rattle.std.{proofs.{lemmas.Bool.Decides.{nat_tests}, Common.{arith, ◌≡◌, inl, inr, ℕ, ◌+◌, List, Bool, true, false, Option, Some, refl, ap, sym, ◌∙◌, subst}}, specs.{Prelude.{nat_eq, bytes_eq, option_map, ◌==◌, if◌then◌else◌}, HashMap.{get}}}
use Rattle.hc_text.proofs.Basics.{eqb-other, eqb-same, false_true, same_or, and_off as then_false}
use Rattle.hc_effects.proofs.Vocabulary.{Limits, Request, Place, is_live_place, with_consumer, Lawful, is_in_line, reads, Tables, lo_of, hi_of, place}
use Rattle.hc_store.specs.declared.backend.Backend.{Ghosts}
use Rattle.hc_entry.specs.Keys as keys
use Rattle.hc_entry.specs.{Keys.{kept_of}, Kept.{on_line}, Lines.{come_back}}
use Rattle.hc_model.specs.Rows as rows
use Rattle.hc_effects.proofs.PollEffects.{same_consumer}
use Rattle.hc_state.specs.{declared.rows.Rows.{Rows}, Changes.{Numbered, ChangesAt, BecomesAt}, Kept.{IsKept, KeepsConsumer, answer_for}, Lines.{KeepsKey}, Plans.{is_idle_at, in_line}, Stands.{RowsStand}}
use Rattle.hc_txn.specs.{declared.transaction.Transaction.{Transaction as Consumer}, Transactions.{lined_up}}
use Rattle.hc_state.proofs.{FallbackSteps.{falls_back}, ConsumerSteps.{keys_with}, KeySteps.{says_elsewhere, lined, comes_back}}

-- a consumer that is there is another
pub becomes_by : (r u : Numbered Consumer) (c : ℕ) (k : Consumer) (f : Consumer → Consumer) → get nat_eq r c ≡ Some k → ChangesAt r u c f →
    BecomesAt r u c (Some (f k))
becomes_by r u c k f there changes = record {
  places = λ d. rw there at changes.places d;
  len = rw there (ap (λ n. n + 1) changes.len);
}

-- who neither has passed stands in line
pub line_by : (k : Consumer) → is_idle_at k.place ≡ true → ((q : ℕ) (how : Option ℕ) → k.place ≡ place.Passed q how → ⊥) → k.place ≡ place.Line
line_by k idle unpassed = grind (arith, nat_tests)

pub changes_still : (m : Numbered Consumer) (c : ℕ) (k : Consumer) → get nat_eq m c ≡ Some k → k.place ≡ place.Line → ChangesAt m m c lined_up
changes_still m c k there at = record { places = by_number; len = refl }
  where
    still : Some (lined_up k) ≡ Some k
    still = ap (λ (p : Place). Some (record k { place = p })) (sym at)

    by_number : (d : ℕ) → get nat_eq m d ≡ (if c == d then option_map lined_up (get nat_eq m c) else get nat_eq m d)
    by_number d = elim (same_or c d) [
      | inl e ↦ rw (← e, eqb-same c, there) (sym still)
      | inr ne ↦ rw (eqb-other c d ne) refl
    ]

in_line_kept : (t : Tables) (k : Consumer) (v : rows.Consumer) (q : ℕ) (how : Option ℕ) → v.place ≡ place.Passed q how → IsKept t k v →
    IsKept t (lined_up k) (in_line v)
in_line_kept t k v q how at kept =
    assumption (kept, kept.answer ∙ by_shown v.shown refl, kept.begins ∙ ap (lo_of t) at, kept.ends ∙ ap (hi_of t) at)
  where
    by_shown : (b : Bool) → v.shown ≡ b → answer_for t v ≡ answer_for t (in_line v)
    by_shown true is = rw is refl
    by_shown false is = rw (is, at) refl

module _ {B : Type 0} {g : Ghosts B} {limits : Limits} (r u : Rows B g) (t : Tables) (law : Lawful t) (c : ℕ) (k : Consumer) (v : rows.Consumer)
    (stands : RowsStand limits r t) (there : get nat_eq r.consumers c ≡ Some k) (row : t.consumer c ≡ Some v)
    (last : u.last_start ≡ r.last_start) (exchanges : u.exchanges ≡ r.exchanges) (entries : u.entries ≡ r.entries) where
  kept : IsKept t k v
  kept = subst (KeepsConsumer t (Some k)) row (subst (λ o. KeepsConsumer t o (t.consumer c)) there (stands.consumers c))

  -- who stands in line already stays as it is
  pub stands_still : k.place ≡ place.Line → u.consumers ≡ r.consumers → u.keys ≡ r.keys → RowsStand limits u (with_consumer c (Some (in_line v)) t)
  stands_still at consumers same_keys =
      let still : in_line v ≡ v = ap (λ (p : Place). record v { place = p }) (sym (sym kept.place ∙ at)) in
      let same : with_consumer c (Some (in_line v)) t ≡ t = ap (λ (w : rows.Consumer). with_consumer c (Some w) t) still ∙ same_consumer t t c v row in
      subst (RowsStand limits u) (sym same) (record {
        limits = rw entries stands.limits;
        last_start = last ∙ stands.last_start;
        next = rw exchanges stands.next;
        count = rw consumers stands.count;
        consumers = rw consumers stands.consumers;
        exchanges = rw exchanges stands.exchanges;
        keys = rw same_keys stands.keys;
        entries = rw entries stands.entries;
      })

  module _ (q : ℕ) (how : Option ℕ) (at : k.place ≡ place.Passed q how) (changes : ChangesAt r.consumers u.consumers c lined_up)
      (back : keys.Becomes (on_line (come_back c)) k.request.key r.keys u.keys) where
    v_at : v.place ≡ place.Passed q how
    v_at = sym kept.place ∙ at

    same_key : k.request.key ≡ v.request.key
    same_key = ap (λ (z : Request). z.key) kept.request

    line_then : is_in_line v.request.key (Some (in_line v)) ≡ true
    line_then = let queues = law.places.passed_queues c q how v row v_at in lined (in_line v) refl queues.cached queues.asks

    keys_then : (key : List ℕ) → KeepsKey (with_consumer c (Some (in_line v)) t) key (kept_of u.keys key)
    keys_then =
        keys_with t c (Some (in_line v)) (on_line (come_back c)) v.request.key r.keys u.keys stands.keys
        (subst (λ (key : List ℕ). keys.Becomes (on_line (come_back c)) key r.keys u.keys) same_key back)
        (comes_back t c (Some (in_line v)) v.request.key (kept_of r.keys v.request.key) line_then
        (then_false (bytes_eq v.request.key v.request.key) false refl) (then_false (bytes_eq v.request.key v.request.key) false refl)
        (then_false (is_in_line v.request.key (Some (in_line v))) false refl))
        (λ other off. says_elsewhere t c v (in_line v) other row refl off)

    pub stands_back : RowsStand limits u (with_consumer c (Some (in_line v)) t)
    stands_back =
        falls_back r u t c v (in_line v) (lined_up k) stands row (ap reads v_at) refl (ap is_live_place v_at) refl last exchanges entries
        (becomes_by r.consumers u.consumers c k lined_up there changes) (in_line_kept t k v q how v_at kept) keys_then
