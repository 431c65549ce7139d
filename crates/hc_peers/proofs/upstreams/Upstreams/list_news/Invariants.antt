use Rattle.std.proofs.Common.{◌≡◌, ◌++◌}
use Rattle.std.specs.BTreeSet as set
use Rattle.hc_peers.proofs.upstreams.Upstreams.list_news.Given as goal

abbrev pub invariant-loop-x : goal.invariant-loop-x
invariant-loop-x l = l.to.items ++ l.x-iterator ≡ l.fn.to.items ++ set.keys l.self.news
