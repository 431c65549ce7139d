use Rattle.std.{proofs.{Common.{◌≡◌, ◌+◌, ◌<◌, ◌≤◌, ◌^◌, ◌++◌, [], ◌∷◌, ℕ, Option, Some, None, refl, ap, sym, ◌∙◌, arith, nat_eq}, lemmas.Grind.{not_there}}, specs.{Prelude.{IsSomeAnd}, Option.{option_or}, HashMap.{get}}}
use Rattle.hc_effects.proofs.Vocabulary.{act_list, Why, act}
use Rattle.hc_range.specs.{declared.range.Span.{Span}, Spans.{IsWithin}}
use Rattle.hc_record.specs.Plain.{plain}
use Rattle.hc_state.specs.Reads.{IsUnshownBy}
use Rattle.hc_state.proofs.Maps.{lent, known_of, merely_below}
use Rattle.hc_on_poll.proofs.ShowStored.{same_shown, run_end_small, run_part_fits, run_part_known, stored_answered}
use Rattle.hc_on_poll.proofs.shown.show_stored.Goals as goal

pub invariant_of-head : goal.invariant_of-head
invariant_of-head g c =
    let r = c.args.rows.now in
    let k = c.unwrap-consumer.result.now in
    let own = c.args.head.own in
    let at = lent c.get.result (get nat_eq r.consumers c.args.c) c.unwrap-consumer.result c.get.ensures.value c.unwrap-consumer.ensures in
    let unshown = known_of (get nat_eq r.consumers c.args.c) k (IsUnshownBy c.args.r c.args.by) at c.requires.unshown in
    record {
      strong = c.args.head.strong;
      own = record {
        known_status = own.known_status;
        small_total = λ n is. by_total c.args.head.total k.hi c.or-head.result own.small_total
            (λ m end. merely_below m (2 ^ 62) c.requires.stands
            (λ s. run_end_small r c.args.c c.args.r c.args.by k at unshown (plain c.args.head) c.requires.head s m end)) c.or-head.ensures n is;
        small_requested = own.small_requested;
        small_answered = own.small_answered;
        own_joining = own.own_joining;
        vary_list = own.vary_list;
        list = own.list;
        within_limits = own.within_limits;
      };
    }
  where
    by_total : (o p z : Option ℕ) → ((n : ℕ) → o ≡ Some n → n < 2 ^ 62) → ((n : ℕ) → p ≡ Some n → n < 2 ^ 62) → z ≡ option_or o p → (n : ℕ) → z ≡ Some n →
        n < 2 ^ 62
    by_total None p z one other is n at = other n (sym is ∙ at)
    by_total (Some m) p z one other is n at = one n (sym is ∙ at)

pub shown-requires : goal.shown-requires
shown-requires g c = λ on x span.
    let r = c.args.rows.now in
    let k = c.unwrap-consumer.result.now in
    let at = lent c.get.result (get nat_eq r.consumers c.args.c) c.unwrap-consumer.result c.get.ensures.value c.unwrap-consumer.ensures in
    let unshown = known_of (get nat_eq r.consumers c.args.c) k (IsUnshownBy c.args.r c.args.by) at c.requires.unshown in
    let part = sym c.is_part-ranged.ensures ∙ on in
    let spans = sym c.span_to.ensures ∙ span in
    by_result x c.or-head.result
    (λ none. not_there c.requires.stands
    (λ s. run_part_known r c.args.c c.args.r c.args.by k at unshown (plain c.args.head) c.requires.head s x part spans (sym c.or-head.ensures ∙ none)))
    (λ n is. merely_below x.lo x.hi c.requires.stands
    (λ s. (run_part_fits r c.args.c c.args.r c.args.by k at unshown (plain c.args.head) c.requires.head s x n part spans
    (sym c.or-head.ensures ∙ is)).not_empty))
    (λ n is. merely_below x.hi (n + 1) c.requires.stands
    (λ s. below (run_part_fits r c.args.c c.args.r c.args.by k at unshown (plain c.args.head) c.requires.head s x n part spans
    (sym c.or-head.ensures ∙ is)).within))
    (λ n is. merely_below n (2 ^ 62) c.requires.stands
    (λ s. (run_part_fits r c.args.c c.args.r c.args.by k at unshown (plain c.args.head) c.requires.head s x n part spans (sym c.or-head.ensures ∙ is)).small))
  where
    below : {a b : ℕ} → a ≤ b → a < b + 1
    below le = omega arith

    by_result : (x : Span) (z : Option ℕ) → (z ≡ None → ⊥) → ((n : ℕ) → z ≡ Some n → x.lo < x.hi) → ((n : ℕ) → z ≡ Some n → x.hi < n + 1) →
        ((n : ℕ) → z ≡ Some n → n < 2 ^ 62) → IsSomeAnd z (IsWithin x)
    by_result x None never some within small = absurd (never refl)
    by_result x (Some n) never some within small = let lt = within n refl in
        record { not_empty = some n refl; within = omega (arith, lt); small = small n refl }

pub returns-clause-answers : goal.returns-clause-answers
returns-clause-answers g c = λ now want limits t facts rows accepted.
    let r = c.args.rows.now in
    let k = c.unwrap-consumer.result.now in
    let answer = c.in_ok-shown.shown in
    let at = lent c.get.result (get nat_eq r.consumers c.args.c) c.unwrap-consumer.result c.get.ensures.value c.unwrap-consumer.ensures in
    let unshown = known_of (get nat_eq r.consumers c.args.c) k (IsUnshownBy c.args.r c.args.by) at c.requires.unshown in
    stored_answered r _ t facts rows now want c.args.c c.args.r c.args.by k at unshown (act_list c.args.out.now) (act_list c.put_shown.new.out)
    c.requires.headed (plain c.args.head) c.requires.head c.or-head.result c.or-head.ensures answer
    (c.in_ok-shown.ensures ∙
    same_shown (record (plain c.args.head) { total = c.or-head.result }) _ _ _ _ _ _ c.why_shown-why.ensures c.span_to.ensures c.is_part-ranged.ensures)
    (c.put_shown.ensures ∙ ap (λ (z : Why). act_list c.args.out.now ++ (act.Shown c.args.c c.args.r z answer.status answer.fields k.lo k.hi ∷ []))
    c.why_shown-why.ensures)
    refl refl refl refl c.show.ensures
