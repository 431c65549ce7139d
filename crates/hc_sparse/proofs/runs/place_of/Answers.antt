use Rattle.std.{proofs.{Common.{rules}, lemmas.List.Sorted.{IsPartitionPoint-from_clause}}, specs.Prelude.{nat_le}}
use Rattle.hc_sparse.specs.Runs.{end_of}
use Rattle.hc_sparse.proofs.RunLemmas.{partitioned, place-is}
use Rattle.hc_sparse.proofs.runs.place_of.Goals as goal

pub returns-clause-place : goal.returns-clause-place
returns-clause-place c =
    let point = IsPartitionPoint-from_clause (λ r. nat_le (end_of r) c.args.p) _ _ c.partition_point.ensures.partitioned
    (partitioned 0 c.args.p c.args.runs.now c.requires) (λ a r q k. search rules) in
    place-is c.args.p c.args.runs.now c.partition_point.result c.partition_point.ensures.bound point
