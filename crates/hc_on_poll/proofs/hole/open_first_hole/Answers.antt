use Rattle.std.{proofs.Common.{ℕ, List, Some, refl, nat_eq, ap, sym, ◌∙◌, subst}, specs.{Prelude.{unwrap_or}, HashMap.{get}}}
use Rattle.hc_effects.proofs.Vocabulary.{act_list, Request, Opens, hole_request, need}
use Rattle.hc_record.specs.Plain.{plain}
use Rattle.hc_entry.specs.Keys as keys
use Rattle.hc_entry.specs.{Kept.{on_line}, Lines.{gone_away}}
use Rattle.hc_stored.specs.Entries.{shelf_of}
use Rattle.hc_state.specs.{Kept.{KeepsConsumer}, Plans.{HasCurrent}}
use Rattle.hc_on_poll.specs.Ready.{MayPass}
use Rattle.hc_on_poll.proofs.{BindHandler.{current_total}, FirstHandler.{filling_answered}, PassesHandler.{current_as}}
use Rattle.hc_state.proofs.Maps.{lent, known_of, some_that}
use Rattle.hc_on_poll.proofs.hole.open_first_hole.Goals as goal

pub returns-clause-answers : goal.returns-clause-answers
returns-clause-answers g c =
    let r = c.args.rows.now in
    let at_row = get nat_eq r.consumers c.args.c in
    let k = c.unwrap-consumer.result.now in
    let head = plain c.args.head.now in
    let at = lent c.get.result at_row c.unwrap-consumer.result c.get.ensures.value c.unwrap-consumer.ensures in
    let idle = (known_of at_row k (MayPass r.keys c.args.c) at c.requires.passes).idle in
    let now_is = known_of at_row k (HasCurrent r.keys c.args.r) at c.requires.current.current in
    let launch = c.in_ok-x.ensures in
    let made = c.in_ok-request.ensures in
    let hole = need.Hole c.args.hole.lo c.args.hole.hi in
    some_that at_row k _ at (λ wants want limits t v facts stands row is.
    let kept = subst (KeepsConsumer t (Some k)) row (subst (λ o. KeepsConsumer t o (t.consumer c.args.c)) at (stands.consumers c.args.c)) in
    let total = current_total r t v.request.key c.args.r head stands (current_as r t k v c.args.r stands kept now_is) c.requires.current.head in
    filling_answered r c.launch.new.self c.bind_first.new.self c.away.new.self c.bind_first-2.new.consumers t facts.law c.args.now c.args.c c.in_ok-x.x
    c.args.r c.args.span hole c.in_ok-request.request k v stands at row idle now_is c.requires.admits refl
    launch.number launch.next launch.ok c.in_ok-bind_first.ensures.ok
    (subst (λ (key : List ℕ). keys.Becomes (on_line (gone_away c.args.c)) key r.keys c.away.new.self) (ap (λ (z : Request). z.key) made) c.away.ensures)
    c.bind_first-2.ensures
    (shelf_of r.entries).faults want (act_list c.args.out.now) (act_list c.open.new.out) c.args.hole.lo c.args.hole.hi refl head.total total wants
    (is ∙ (ap (λ (x : ℕ). Opens x hole (hole_request head k.request c.args.hole (unwrap_or head.total 0))) (sym launch.number) ∙
    ap (λ (z : Request). Opens c.in_ok-x.x hole z) (sym made))) c.open.ensures)
