use Rattle.std.proofs.{Common.{rules, of_calls, ltb}, lemmas.{Fn.{always_returns_same}, List.Sorted.{IsPartitionedBy-ltb}}}
use Rattle.hc_text.proofs.SortedLemmas.{place_is, IsNonDecreasingBy-is_sorted}
use Rattle.hc_text.proofs.sorted.place_of.Goals as goal

pub returns-clause-place : goal.returns-clause-place
returns-clause-place g c =
    let number = g.T.Numbered.number in
    let items = c.args.items.now in
    let low = IsNonDecreasingBy-is_sorted number items c.requires in
    place_is number c.args.n items c.partition_point.result c.partition_point.ensures.bound
    (c.partition_point.ensures.partitioned (λ x. ltb (number x) c.args.n) (always_returns_same _ _ _ (λ a r f k. search (rules, of_calls)))
    (IsPartitionedBy-ltb number items c.args.n low))
