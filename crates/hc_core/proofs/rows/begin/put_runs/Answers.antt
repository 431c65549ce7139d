use Rattle.std.{proofs.Common.{◌≡◌, ℕ, ◌+◌, ◌≤◌, ◌<◌, ◌^◌, List, length, None, ap, ◌∙◌, subst, arith}, specs.Prelude.{option_map}}
use Rattle.hc_sparse.proofs.SizeLemmas.{size-none}
use Rattle.hc_stored.specs.{Entries.{shelf_of}, Kept.{kept_with_bytes}, Shelf.{Becomes, same_order}}
use Rattle.hc_core.proofs.BegunItems.{none_put, still_kept, is_placed, more_put, calm_ok}
use Rattle.hc_core.proofs.rows.begin.put_runs.Goals as goal

pub loop-run-init : goal.loop-run-init
loop-run-init g c = none_put (shelf_of c.args.entries.now) c.args.r (size-none _ c.requires.bare) c.requires.bare

pub put-requires-clause-there : goal.put-requires-clause-there
put-requires-clause-there g c = still_kept (shelf_of c.args.entries.now) (shelf_of c.loop-run.entries) c.args.r _ c.requires.there c.loop-run.invariant

pub put-requires-clause-some : goal.put-requires-clause-some
put-requires-clause-some g c =
    let placed = is_placed 0 0 c.args.runs.now c.loop-run.run-index c.run-item.result c.requires.ascending c.loop-run-test.true c.run-item.is in
    let same = ap length c.bytes_of.ensures in let some = placed.some in omega (arith, same, some)

pub put-requires-clause-absent : goal.put-requires-clause-absent
put-requires-clause-absent g c = λ p le lt.
    let placed = is_placed 0 0 c.args.runs.now c.loop-run.run-index c.run-item.result c.requires.ascending c.loop-run-test.true c.run-item.is in
    c.loop-run.invariant.ends p (let behind = placed.behind in omega (arith, behind, le))

pub put-requires-clause-end : goal.put-requires-clause-end
put-requires-clause-end g c =
    let placed = is_placed 0 0 c.args.runs.now c.loop-run.run-index c.run-item.result c.requires.ascending c.loop-run-test.true c.run-item.is in
    let same = ap length c.bytes_of.ensures in let within = placed.within in let ends = c.requires.ends in omega (arith, same, within, ends)

pub loop-run-preserved : goal.loop-run-preserved
loop-run-preserved g c =
    let run = c.run-item.result in
    let m = shelf_of c.loop-run.entries in
    let u = shelf_of c.put.new.self in
    let placed = is_placed 0 0 c.args.runs.now c.loop-run.run-index run c.requires.ascending c.loop-run-test.true c.run-item.is in
    let done = c.in_ok-put.ensures in
    let puts : Becomes (option_map (kept_with_bytes run.at run.x run.bytes None)) same_order c.args.r m u =
    subst (λ (bs : List ℕ). Becomes (option_map (kept_with_bytes run.at run.x bs None)) same_order c.args.r m u) c.bytes_of.ensures done.ok in
    more_put (shelf_of c.args.entries.now) m u c.args.r c.loop-run.run-index c.args.runs.now run c.requires.there c.loop-run-test.true c.run-item.is
    placed c.loop-run.invariant puts
    (done.used ∙ ap (λ (bs : List ℕ). m.used + length bs) c.bytes_of.ensures) (calm_ok _ _ c.in_ok-put.field-0 done.cause) c.requires.ends
