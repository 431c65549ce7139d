-- What `read_past` needs of its calls, and what it answers for each step of a reader past the store.
--
-- Numbers stay in range and what it asks is open in any tables that the rows represent. So both are taken from those
-- that are there. Two steps can't come, to read the store and to fill a hole: by `ReadPast` neither is the step of such
-- a reader (`unreachable`). The others are answered each by its move: an end or a failure by what leaves, held bytes
-- and a wait by `given_answered` and `asks_answered`.
use Rattle.std.{proofs.{Common.{◌+◌, ◌<◌, ◌≤◌, ◌^◌, ap, sym, ◌∙◌, arith, nat_eq, length, inl, inr}, lemmas.Grind.{not_there}}, specs.HashMap.{get}}
use Rattle.hc_effects.proofs.Vocabulary.{act_list, read_step}
use Rattle.hc_exch.specs.{Exchanges.{table_of}, Known.{is_open}}
use Rattle.hc_state.specs.Handlers.{IsShown}
use Rattle.hc_state.proofs.{Maps.{lent, known_of, some_that, merely_true, merely_below}, Words.{few_received}}
use Rattle.hc_on_poll.proofs.ReadPast.{reading_of, offset_small, more_fits, waits_open, no_stored, no_hole, ends_move, fails_move, given_answered, asks_answered}
use Rattle.hc_on_poll.proofs.past.read_past.Goals as goal

small : (g : _) (c : goal.After-unwrap-consumer g) → c.unwrap-consumer.result.now.lo + c.unwrap-consumer.result.now.given < 2 ^ 62 + 1
small g c =
    let r = c.args.rows.now in
    let k = c.unwrap-consumer.result.now in
    let at = lent c.get.result (get nat_eq r.consumers c.args.c) c.unwrap-consumer.result c.get.ensures.value c.unwrap-consumer.ensures in
    let shown = known_of (get nat_eq r.consumers c.args.c) k (IsShown c.args.x) at c.requires.shown in
    merely_below (k.lo + k.given) (2 ^ 62 + 1) c.requires.stands (λ s.
    let t = s.t in
    let facts = s.facts in
    offset_small r t facts c.args.want c.args.c c.args.x k s.rows (reading_of r t facts.law c.args.c c.args.x k s.rows at shown.0) shown.1
    c.requires.wants s.numbers (few_received s.received))

pub overflow_add-offset : goal.overflow_add-offset
overflow_add-offset g c = let below = small g c in omega (arith, below)

pub most-requires : goal.most-requires
most-requires g c =
    let r = c.args.rows.now in
    let k = c.unwrap-consumer.result.now in
    let at = lent c.get.result (get nat_eq r.consumers c.args.c) c.unwrap-consumer.result c.get.ensures.value c.unwrap-consumer.ensures in
    let shown = known_of (get nat_eq r.consumers c.args.c) k (IsShown c.args.x) at c.requires.shown in
    let below = merely_below (k.lo + k.given) (2 ^ 62 + 1) c.requires.stands (λ s.
    let t = s.t in
    let facts = s.facts in
    offset_small r t facts c.args.want c.args.c c.args.x k s.rows (reading_of r t facts.law c.args.c c.args.x k s.rows at shown.0) shown.1
    c.requires.wants s.numbers (few_received s.received)) in
    omega (arith, below)

pub give-requires-clause-fits : goal.give-requires-clause-fits
give-requires-clause-fits g c =
    let r = c.args.rows.now in
    let k = c.unwrap-consumer.result.now in
    let bytes = c.in_ok-bytes-in-Held.bytes in
    let at = lent c.get.result (get nat_eq r.consumers c.args.c) c.unwrap-consumer.result c.get.ensures.value c.unwrap-consumer.ensures in
    let shown = known_of (get nat_eq r.consumers c.args.c) k (IsShown c.args.x) at c.requires.shown in
    let below = merely_below (k.given + length bytes) (2 ^ 62 + 1) c.requires.stands (λ s.
    let t = s.t in
    let facts = s.facts in
    more_fits r t facts c.args.want c.args.c c.args.x k s.rows (reading_of r t facts.law c.args.c c.args.x k s.rows at shown.0) shown.1 c.requires.wants
    s.numbers (few_received s.received) c.most.result bytes c.in_ok-bytes-in-Held.ensures.bytes) in
    let fits : k.given + length bytes ≤ 2 ^ 62 = omega (arith, below) in
    some_that (get nat_eq r.consumers c.args.c) k (λ j. j.given + length bytes ≤ 2 ^ 62) at fits

pub ask-requires-clause-running : goal.ask-requires-clause-running
ask-requires-clause-running g c =
    let r = c.args.rows.now in
    let k = c.unwrap-consumer.result.now in
    let at = lent c.get.result (get nat_eq r.consumers c.args.c) c.unwrap-consumer.result c.get.ensures.value c.unwrap-consumer.ensures in
    let shown = known_of (get nat_eq r.consumers c.args.c) k (IsShown c.args.x) at c.requires.shown in
    merely_true (is_open c.args.x (table_of r.exchanges)) c.requires.stands (λ s.
    let t = s.t in
    let facts = s.facts in
    waits_open r t facts c.args.want c.args.c c.args.x k s.rows (reading_of r t facts.law c.args.c c.args.x k s.rows at shown.0) shown.1 c.requires.wants
    c.args.now c.in-Waits.field-0 (sym (ap read_step c.past_view.ensures) ∙ (sym c.read_step.ensures ∙ c.in-Waits.is)))

pub unreachable-requires : goal.unreachable-requires
unreachable-requires g c =
    let r = c.args.rows.now in
    let k = c.unwrap-consumer.result.now in
    let at = lent c.get.result (get nat_eq r.consumers c.args.c) c.unwrap-consumer.result c.get.ensures.value c.unwrap-consumer.ensures in
    let shown = known_of (get nat_eq r.consumers c.args.c) k (IsShown c.args.x) at c.requires.shown in
    not_there c.requires.stands (λ s.
    let t = s.t in
    let facts = s.facts in
    let rd = reading_of r t facts.law c.args.c c.args.x k s.rows at shown.0 in
    elim c.in-Stored.is [
      | inl e ↦ no_stored r t facts c.args.want c.args.c c.args.x k s.rows rd shown.1 c.requires.wants e.0
          (sym (ap read_step c.past_view.ensures) ∙ (sym c.read_step.ensures ∙ e.1))
      | inr e ↦ no_hole r t facts c.args.want c.args.c c.args.x k s.rows rd shown.1 c.requires.wants e.0
          (sym (ap read_step c.past_view.ensures) ∙ (sym c.read_step.ensures ∙ e.1))
    ])

pub returns-in-Ended-clause-answers : goal.returns-in-Ended-clause-answers
returns-in-Ended-clause-answers g c = λ limits t facts rows accepted.
    let r = c.args.rows.now in
    let k = c.unwrap-consumer.result.now in
    let at = lent c.get.result (get nat_eq r.consumers c.args.c) c.unwrap-consumer.result c.get.ensures.value c.unwrap-consumer.ensures in
    let shown = known_of (get nat_eq r.consumers c.args.c) k (IsShown c.args.x) at c.requires.shown in
    let rd = reading_of r t facts.law c.args.c c.args.x k rows at shown.0 in
    c.end_reading.ensures.answers c.args.want _ t rd.v facts rows rd.row
    (ends_move r t facts c.args.want c.args.c c.args.x k rows rd shown.1 c.requires.wants c.args.now
    (sym (ap read_step c.past_view.ensures) ∙ (sym c.read_step.ensures ∙ c.in-Ended.is)))

pub returns-in-Failed-clause-answers : goal.returns-in-Failed-clause-answers
returns-in-Failed-clause-answers g c = λ limits t facts rows accepted.
    let r = c.args.rows.now in
    let k = c.unwrap-consumer.result.now in
    let at = lent c.get.result (get nat_eq r.consumers c.args.c) c.unwrap-consumer.result c.get.ensures.value c.unwrap-consumer.ensures in
    let shown = known_of (get nat_eq r.consumers c.args.c) k (IsShown c.args.x) at c.requires.shown in
    let rd = reading_of r t facts.law c.args.c c.args.x k rows at shown.0 in
    c.fail.ensures.answers c.args.want _ t rd.v facts rows rd.row
    (fails_move r t facts c.args.want c.args.c c.args.x k rows rd shown.1 c.requires.wants c.args.now c.in-Failed.cause
    (sym (ap read_step c.past_view.ensures) ∙ (sym c.read_step.ensures ∙ c.in-Failed.is)))

pub returns-in_ok-bytes-in-Held-clause-answers : goal.returns-in_ok-bytes-in-Held-clause-answers
returns-in_ok-bytes-in-Held-clause-answers g c = λ limits t facts rows accepted.
    let r = c.args.rows.now in
    let k = c.unwrap-consumer.result.now in
    let at = lent c.get.result (get nat_eq r.consumers c.args.c) c.unwrap-consumer.result c.get.ensures.value c.unwrap-consumer.ensures in
    let shown = known_of (get nat_eq r.consumers c.args.c) k (IsShown c.args.x) at c.requires.shown in
    let rest = c.give.ensures.rest in
    given_answered r c.give.new.rows t facts c.args.now c.args.want c.args.c c.args.x k (act_list c.args.out.now) (act_list c.give.new.out) rows at shown
    c.requires.wants rest.last_start rest.keys rest.entries
    c.most.result c.in_ok-bytes-in-Held.bytes (sym (ap read_step c.past_view.ensures) ∙ (sym c.read_step.ensures ∙ c.in-Held.is)) c.most.ensures
    c.in_ok-bytes-in-Held.ensures.bytes c.give.ensures.acts (rw c.give.ensures.exchanges c.in_ok-bytes-in-Held.ensures.ok) c.give.ensures.consumers

pub returns-in-Waits-clause-answers : goal.returns-in-Waits-clause-answers
returns-in-Waits-clause-answers g c = λ limits t facts rows accepted.
    let r = c.args.rows.now in
    let k = c.unwrap-consumer.result.now in
    let at = lent c.get.result (get nat_eq r.consumers c.args.c) c.unwrap-consumer.result c.get.ensures.value c.unwrap-consumer.ensures in
    let shown = known_of (get nat_eq r.consumers c.args.c) k (IsShown c.args.x) at c.requires.shown in
    let rest = c.ask.ensures.rest in
    asks_answered r c.ask.new.rows t facts c.args.now c.args.want c.args.c c.args.x k (act_list c.args.out.now) (act_list c.ask.new.out) rows at shown
    c.requires.wants rest.last_start rest.keys rest.entries
    c.ask.ensures.consumers c.ask.ensures.asked c.in-Waits.field-0 (sym (ap read_step c.past_view.ensures) ∙ (sym c.read_step.ensures ∙ c.in-Waits.is))
    c.ask.ensures.acts
