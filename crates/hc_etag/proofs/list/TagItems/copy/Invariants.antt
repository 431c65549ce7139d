use Rattle.std.proofs.Common.{◌≡◌, take}
use Rattle.hc_etag.proofs.list.TagItems.copy.Given as goal

abbrev pub invariant-loop-tag : goal.invariant-loop-tag
invariant-loop-tag l = l.items.items ≡ take l.tag-index l.tag-items
