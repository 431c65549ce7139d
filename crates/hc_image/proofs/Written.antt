-- What has an image has the one that is written.
use Rattle.std.{proofs.{Common.{List, [], ◌∷◌, refl}, lemmas.List.Elements.{All-head, All-tail}}, specs.List.{All}}
use Rattle.hc_record.specs.{declared.version.Version.TheVariants.{Second}, Record.{spelling}}
use Rattle.hc_model.specs.Entries.{Content, Contents}
use Rattle.hc_image.specs.{Images.{HasItemText, HasImage, item_text, items_text, image_of}, Spelled.{SpellsItem, SpellsItems, SpellsImage}}

pub item_written : (item : Content) → HasItemText item → SpellsItem (item_text item) item
item_written item has =
    record { has_text = has; head_text = spelling Second item.head; is_record = (Second, refl); text_is = refl }

pub items_written : (items : List Content) → All HasItemText items → SpellsItems (items_text items) items
items_written [] all = refl
items_written (item ∷ items) all =
    (item_text item, items_text items, item_written item (All-head HasItemText item items all), items_written items (All-tail HasItemText item items all), refl)

pub image_written : (contents : Contents) → HasImage contents → SpellsImage (image_of contents) contents
image_written contents has =
    record { has_lines = has.first; item_texts = items_text contents.items; items = items_written contents.items has.items; text_is = refl }
