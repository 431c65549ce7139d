-- A consumer that has the turn may read what its 304 validated: what is kept represents the tables then.
use Rattle.std.{proofs.{lemmas.Bool.Decides.{nat_tests}, Common.{arith, ◌≡◌, ℕ, Bool, true, false, Some, None, refl, ap, sym, ◌∙◌, subst}}, specs.{Prelude.{bytes_eq, nat_eq, ◌&&◌}, HashMap.{get}}}
use Rattle.hc_text.proofs.Basics.{and_off as then_false}
use Rattle.hc_effects.proofs.Vocabulary.{Limits, Request, with_consumer, with_representation, Lawful, is_in_line, Tables, Exchange, Representation, place}
use Rattle.hc_store.specs.declared.backend.Backend.{Ghosts}
use Rattle.hc_stored.specs.Entries.{shelf_of}
use Rattle.hc_entry.specs.Keys as keys
use Rattle.hc_entry.specs.{Keys.{kept_of}, Kept.{on_line}, Lines.{line_after_pass}}
use Rattle.hc_rules.proofs.RangeReads.{bytes_eq-same}
use Rattle.hc_model.specs.Rows as rows
use Rattle.hc_state.specs.{declared.rows.Rows.{Rows}, Changes.{ChangesAt}, Heads.{AwaitsHead}, Kept.{IsKept, answer_for}, Leaving.{UnbindsAt}, Stands.{RowsStand}}
use Rattle.hc_txn.specs.{declared.transaction.Transaction.{Transaction as Consumer}, Transactions.{standing_at}}
use Rattle.hc_state.proofs.{ConsumerSteps.{keys_with}, KeySteps.{not_lined, passes_key, says_elsewhere}, QueueHandler.{becomes_by}, Unbinding.{entries_unbound}}
use Rattle.hc_on_leave.proofs.{HeardRows.{kept_as}, OneConsumer.{HoldsAsMuch, stands_moved}}

module _ (t : Tables) (law : Lawful t) (x : ℕ) (w : Exchange) (v : rows.Consumer) (awaits : AwaitsHead t x w v) (at : v.place ≡ place.Turn x) (q : ℕ)
    (p : Representation) where
  abbrev m : Tables
  m = with_representation q (Some p) t

  abbrev z : rows.Consumer
  z = record v { place = place.Passed q (Some x) }

  unanswered : (b : Bool) → v.shown ≡ b → answer_for m v ≡ None
  unanswered b on = grind (arith, nat_tests)

  unanswered_then : (b : Bool) → v.shown ≡ b → answer_for m z ≡ None
  unanswered_then b on = grind (arith, nat_tests)

  kept_then : (k : Consumer) → IsKept m k v → IsKept m (standing_at (place.Passed q (Some x)) k) z
  kept_then k is = assumption (is, is.answer ∙ (unanswered v.shown refl ∙ sym (unanswered_then v.shown refl)))

  much : HoldsAsMuch m w.c v z awaits.asker
  much = record { past = λ y e there. rw at refl; lost = λ y e b there founded. rw at refl }

  first : (b : Bool) → b ≡ true → (b && true) ≡ true
  first b on = grind (arith, nat_tests)

  pub stands_through : {B : Type 0} {g : Ghosts B} {limits : Limits} (r u : Rows B g) (k : Consumer) → get nat_eq r.consumers w.c ≡ Some k →
      RowsStand limits r m
      → u.last_start ≡ r.last_start → u.exchanges ≡ r.exchanges → u.entries ≡ r.entries →
      ChangesAt r.consumers u.consumers w.c (standing_at (place.Passed q (Some x)))
      → keys.Becomes (on_line (line_after_pass w.c)) k.request.key r.keys u.keys → RowsStand limits u (with_consumer w.c (Some z) m)
  stands_through r u k there stands last exchanges entries changes line =
      let is = kept_as r m w.c v k stands awaits.asker there in
      stands_moved r u m w.c v z (standing_at (place.Passed q (Some x)) k) stands awaits.asker (rw at refl) refl last exchanges
      (ap (λ e. (shelf_of e).limits) entries)
      (becomes_by r.consumers u.consumers w.c k (standing_at (place.Passed q (Some x))) there changes) (kept_then k is)
      (keys_with m w.c (Some z) (on_line (line_after_pass w.c)) v.request.key r.keys u.keys stands.keys
      (subst (λ (q : Request). keys.Becomes (on_line (line_after_pass w.c)) q.key r.keys u.keys) is.request line)
      (passes_key m w.c (Some z) v.request.key (kept_of r.keys v.request.key) (not_lined v.request.key z refl)
      (first (bytes_eq v.request.key v.request.key) (bytes_eq-same v.request.key v.request.key refl))
      (then_false (bytes_eq v.request.key v.request.key) false refl) (then_false (is_in_line v.request.key (Some z)) false refl))
      (λ other off. says_elsewhere m w.c v z other awaits.asker refl off))
      (entries_unbound m law.sound.numbered.lists.started w.c v z awaits.asker (λ n. refl) (shelf_of r.entries) (shelf_of u.entries) stands.entries
      (subst (λ pl. UnbindsAt pl w.c (shelf_of r.entries) (shelf_of u.entries)) (sym at) (ap shelf_of entries)))
      much

-- whoever it is called
pub through_as : {B : Type 0} {g : Ghosts B} {limits : Limits} (r u : Rows B g) (t : Tables) (law : Lawful t) (x c q : ℕ) (w : Exchange)
    (v : rows.Consumer) (k : Consumer) (p : Representation) → AwaitsHead t x w v → w.c ≡ c → v.place ≡ place.Turn x → get nat_eq r.consumers c ≡ Some k →
    RowsStand limits r (with_representation q (Some p) t)
    → u.last_start ≡ r.last_start → u.exchanges ≡ r.exchanges → u.entries ≡ r.entries →
    ChangesAt r.consumers u.consumers c (standing_at (place.Passed q (Some x)))
    → keys.Becomes (on_line (line_after_pass c)) k.request.key r.keys u.keys →
    RowsStand limits u (with_consumer c (Some (record v { place = place.Passed q (Some x) })) (with_representation q (Some p) t))
through_as {limits = limits} r u t law x c q w v k p awaits for_it at there stands last exchanges entries changes line =
    subst (λ (d : ℕ). RowsStand limits u (with_consumer d (Some (record v { place = place.Passed q (Some x) })) (with_representation q (Some p) t))) for_it
    (stands_through t law x w v awaits at q p r u k (ap (get nat_eq r.consumers) for_it ∙ there) stands last exchanges entries
    (subst (λ (d : ℕ). ChangesAt r.consumers u.consumers d (standing_at (place.Passed q (Some x)))) (sym for_it) changes)
    (subst (λ (d : ℕ). keys.Becomes (on_line (line_after_pass d)) k.request.key r.keys u.keys) (sym for_it) line))
