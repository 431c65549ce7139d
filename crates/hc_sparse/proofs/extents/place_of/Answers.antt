use Rattle.std.{proofs.{Common.{rules}, lemmas.List.Sorted.{IsPartitionPoint-from_clause}}, specs.Prelude.{nat_le}}
use Rattle.hc_sparse.specs.Extents.{end_of}
use Rattle.hc_sparse.proofs.ExtentLemmas.{partitioned, place-is}
use Rattle.hc_sparse.proofs.extents.place_of.Goals as goal

pub returns-clause-place : goal.returns-clause-place
returns-clause-place c =
    let point = IsPartitionPoint-from_clause (λ e. nat_le (end_of e) c.args.o) _ _ c.partition_point.ensures.partitioned
    (partitioned 0 c.args.o c.args.extents.now c.requires) (λ a r q k. search rules) in
    place-is c.args.o c.args.extents.now c.partition_point.result c.partition_point.ensures.bound point
