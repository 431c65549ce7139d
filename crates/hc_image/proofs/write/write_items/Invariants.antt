use Rattle.std.proofs.Common.{◌≡◌, ◌++◌, take, map}
use Rattle.hc_contents.specs.PlainContents.{plain_item}
use Rattle.hc_image.specs.Images.{items_text}
use Rattle.hc_image.proofs.write.write_items.Given as goal

abbrev pub invariant-loop-item : goal.invariant-loop-item
invariant-loop-item l = l.to.items ≡ l.initial.to.items ++ items_text (map plain_item (take l.item-index l.items))
