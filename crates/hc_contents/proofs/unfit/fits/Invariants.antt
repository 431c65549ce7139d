use Rattle.std.proofs.Common.{◌≡◌, ◌+◌, drop, map}
use Rattle.hc_model.specs.Beginnings.{weights_of}
use Rattle.hc_contents.specs.PlainContents.{plain_item}
use Rattle.hc_contents.proofs.unfit.fits.Given as goal

abbrev pub invariant-loop-item : goal.invariant-loop-item
invariant-loop-item l = weights_of (map plain_item l.items) + l.left ≡ l.most + weights_of (map plain_item (drop l.item-index l.items))
