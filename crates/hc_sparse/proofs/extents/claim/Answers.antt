use Rattle.std.proofs.Common.{◌-◌, length, refl, ap, ◌∙◌, arith, set}
use Rattle.hc_sparse.specs.Extents.{place_of, longer_extent}
use Rattle.hc_sparse.proofs.ClaimLemmas.{IsClaimed, claim-inserted, claim-lengthened, ok-is}
use Rattle.hc_sparse.proofs.extents.claim.Goals as goal

longer : (c : goal.After-extents-1) →
    IsClaimed c.args.extents.now.items
    (set c.args.extents.now.items (c.place_of-place.result - 1) (longer_extent c.index_mut-before.result.now c.args.new.len)) c.args.new.at c.args.new.len
    c.args.new.x c.args.new.from
longer c =
    let place = c.place_of-place.ensures.within in
    let len = ap length c.as_slice.ensures.value in
    let some = c.if-place-gt0.true in
    let follows = c.if-is_followed.ensures.0 refl in
    claim-lengthened c.args.extents.now.items _ (c.place_of-place.result - 1) c.index_mut-before.result.now c.index.result.now c.args.new.at c.args.new.x
    c.args.new.from c.args.new.len c.requires.ascend (omega arith) c.index_mut-before.ensures.value c.index.ensures follows.0 follows.1 follows.2
    c.requires.free c.requires.within refl

pub returns-then-is_followed-clause-ascend : goal.returns-then-is_followed-clause-ascend
returns-then-is_followed-clause-ascend c = (longer c).ascends

pub returns-then-is_followed-clause-marks : goal.returns-then-is_followed-clause-marks
returns-then-is_followed-clause-marks c = (longer c).marks

inserted : (c : goal.After-insert) → IsClaimed c.args.extents.now.items c.insert.new.self.items c.args.new.at c.args.new.len c.args.new.x c.args.new.from
inserted c =
    let room = c.requires.spare in
    let fits = c.insert.ensures.succeeds (omega arith) in
    claim-inserted c.args.extents.now.items c.insert.new.self.items c.args.new c.place_of-place.result c.requires.ascend c.requires.free c.requires.some
    c.requires.within
    (c.place_of-place.ensures.place ∙ ap (place_of c.args.new.at) c.as_slice.ensures.value) (rw (ok-is c.insert.result fits) at c.insert.ensures.items)

pub returns-clause-ascend : goal.returns-clause-ascend
returns-clause-ascend c = (inserted c).ascends

pub returns-clause-marks : goal.returns-clause-marks
returns-clause-marks c = (inserted c).marks
