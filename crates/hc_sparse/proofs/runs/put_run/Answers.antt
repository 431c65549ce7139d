use Rattle.std.proofs.Common.{◌-◌, length, refl, ap, ◌∙◌, arith, set}
use Rattle.hc_sparse.specs.Runs.{place_of}
use Rattle.hc_sparse.proofs.PutLemmas.{IsPut, put-inserted, put-lengthened}
use Rattle.hc_sparse.proofs.runs.put_run.Goals as goal

longer : (c : goal.In_ok-lengthen) →
    IsPut c.args.runs.now.items (set c.args.runs.now.items (c.place_of-place.result - 1) c.lengthen.new.run) c.args.at c.args.x c.args.bytes.now
longer c =
    let place = c.place_of-place.ensures.within in
    let len = ap length c.as_slice.ensures.value in
    let some = c.if-place-gt0.true in
    let follows = c.if-is_followed.ensures.0 refl in
    put-lengthened c.args.runs.now.items (set c.args.runs.now.items (c.place_of-place.result - 1) c.lengthen.new.run) (c.place_of-place.result - 1)
    c.index_mut.result.now c.index.result.now c.args.at c.args.x c.args.bytes.now c.requires.ascend (omega arith) c.index_mut.ensures.value
    c.index.ensures follows.0 follows.1 c.requires.absent c.requires.end (ap (set c.args.runs.now.items (c.place_of-place.result - 1)) c.in_ok-lengthen.ensures)

pub returns-then-is_followed-clause-ascend : goal.returns-then-is_followed-clause-ascend
returns-then-is_followed-clause-ascend c = (longer c).ascends

pub returns-then-is_followed-clause-ok : goal.returns-then-is_followed-clause-ok
returns-then-is_followed-clause-ok c = (longer c).cells

inserted : (c : goal.In_ok-insert) → IsPut c.args.runs.now.items c.insert.new.self.items c.args.at c.args.x c.args.bytes.now
inserted c =
    put-inserted c.args.runs.now.items c.insert.new.self.items (record { x = c.args.x; at = c.args.at; bytes = c.args.bytes.now }) c.place_of-place.result
    c.requires.ascend c.requires.absent c.requires.some c.requires.end
    (c.place_of-place.ensures.place ∙ ap (place_of c.args.at) c.as_slice.ensures.value) (rw c.in_ok-bytes.ensures at c.in_ok-insert.ensures.items)

pub returns-clause-ascend : goal.returns-clause-ascend
returns-clause-ascend c = (inserted c).ascends

pub returns-clause-ok : goal.returns-clause-ok
returns-clause-ok c = (inserted c).cells
