use Rattle.std.proofs.Common.{length}
use Rattle.hc_etag.proofs.TagLemmas.{IsReadUpTo}
use Rattle.hc_etag.specs.Tags.{values_of}
use Rattle.hc_etag.proofs.list.read_tags.Given as goal

abbrev pub invariant-loop-first : goal.invariant-loop-first
invariant-loop-first l = IsReadUpTo l.text (values_of l.tags.items) l.may_come l.rest

abbrev pub decreases-loop-first : goal.decreases-loop-first
decreases-loop-first l = length l.rest
