use Rattle.std.{proofs.{Common.{refl, ap, sym, ◌∙◌, subst, arith, rules, nat_eq}, Math.Logic.{∥∥₁_map}}, specs.{Prelude.{IsSomeAnd, OnOk}, HashMap.{get}}}
use Rattle.hc_text.proofs.Basics.{false_true}
use Rattle.hc_effects.proofs.Vocabulary.{act_list, event, is_live_place}
use Rattle.hc_state.specs.{Handlers.{IsDown}, Reads.{IsShownAt}, Stands.{Answers}}
use Rattle.hc_on_poll.specs.{Readers.{Reads, reader_of}, declared.read.Reader.{Reader}}
use Rattle.hc_state.proofs.{LeftRows.{down_row}, Maps.{lent, some_that}}
use Rattle.hc_on_leave.proofs.LeaveHandlers.{down_fails}
use Rattle.hc_on_poll.proofs.{Polled.{lives_there}, ReadOn.{offset_fits}}
use Rattle.hc_on_poll.proofs.poll.poll.Goals as goal

pub read_past-requires-clause-stands : goal.read_past-requires-clause-stands
read_past-requires-clause-stands g c = ∥∥₁_map c.requires.stands (λ u. u.0)

pub fail-requires-clause-stands : goal.fail-requires-clause-stands
fail-requires-clause-stands g c = ∥∥₁_map c.requires.stands (λ u. u.0)

pub await_stored-requires-clause-stands : goal.await_stored-requires-clause-stands
await_stored-requires-clause-stands g c = ∥∥₁_map c.requires.stands (λ u. u.0)

pub read_bound-requires-clause-opens : goal.read_bound-requires-clause-opens
read_bound-requires-clause-opens g c = record { stands = ∥∥₁_map c.requires.stands (λ u. u.0); few = c.requires.few }

pub of-reader-requires : goal.of-reader-requires
of-reader-requires g c =
    let r = c.args.rows.now in
    let k = c.unwrap-consumer.result.now in
    let at = lent c.get.result (get nat_eq r.consumers c.args.c) c.unwrap-consumer.result c.get.ensures.value c.unwrap-consumer.ensures in
    let shown : IsShownAt c.in-Bound-2.r k = search rules in
    let fits = offset_fits r c.args.c c.in-Bound-2.r k at shown (∥∥₁_map c.requires.stands (λ u. u.0)) in
    omega (arith, fits)

pub read_bound-requires-clause-reads : goal.read_bound-requires-clause-reads
read_bound-requires-clause-reads g c =
    let r = c.args.rows.now in
    let q = c.in-Bound-2.r in
    let k = c.unwrap-consumer.result.now in
    let at = lent c.get.result (get nat_eq r.consumers c.args.c) c.unwrap-consumer.result c.get.ensures.value c.unwrap-consumer.ensures in
    let shown : IsShownAt q k = search rules in
    subst (λ (z : Reader). IsSomeAnd (get nat_eq r.consumers z.c) (Reads z)) (sym c.of-reader.ensures)
    (some_that (get nat_eq r.consumers c.args.c) k (Reads (reader_of c.args.c q k)) at (record { shown = shown; is = refl }))

-- the reader is c
pub returns-in-Bound-2-clause-answers : goal.returns-in-Bound-2-clause-answers
returns-in-Bound-2-clause-answers g c =
    subst (λ (z : Reader). OnOk c.read_bound.result
    (Answers c.args.rows.now c.read_bound.new.rows (act_list c.args.out.now) (act_list c.read_bound.new.out) c.args.now (event.Poll z.c c.args.want)))
    c.of-reader.ensures c.read_bound.ensures.answers

pub unreachable-requires : goal.unreachable-requires
unreachable-requires g c =
    let r = c.args.rows.now in
    let k = c.unwrap-consumer.result.now in
    let at = lent c.get.result (get nat_eq r.consumers c.args.c) c.unwrap-consumer.result c.get.ensures.value c.unwrap-consumer.ensures in
    false_true (sym (ap is_live_place c.in-Over.is) ∙ lives_there r (∥∥₁_map c.requires.stands (λ u. u.0)) c.args.c k at)

-- who is down fails by that
pub returns-in-Down-clause-answers : goal.returns-in-Down-clause-answers
returns-in-Down-clause-answers g c = λ limits t facts stands accepted.
    let r = c.args.rows.now in
    let row = get nat_eq r.consumers c.args.c in
    let k = c.unwrap-consumer.result.now in
    let why = c.in-Down.cause in
    let at = lent c.get.result row c.unwrap-consumer.result c.get.ensures.value c.unwrap-consumer.ensures in
    let v = down_row r t c.args.c why (some_that row k (IsDown why) at c.in-Down.is) stands in
    c.fail.ensures.answers c.args.want _ t v.0 facts stands v.1 (down_fails t facts.law c.args.now c.args.want c.args.c v.0 why v.1 v.2)
