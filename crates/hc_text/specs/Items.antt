-- What `next_item` gives.
use Rattle.std.specs.Prelude.{◌≡◌, ℕ, ◌+◌, ◌<◌, ◌≤◌, true, List, [], ◌∷◌, length, drop, min, slice_index, slice_range}
use Rattle.hc_text.specs.declared.list.Item.{Item}
use Rattle.hc_text.specs.Elements.{elements, is_blank, comma}

-- the element that an item names
abbrev pub item_bytes : List ℕ → Item → List ℕ
item_bytes text item = slice_range text item.start item.end

-- Where the rest of a list begins after an element that ends here: behind the next comma, before which there are only
-- blanks, or at the end of the text.
pub record IsBehind (text : List ℕ) (end next : ℕ) : Type 0 where
  pub stop : ℕ
  pub bounds : (end ≤ stop) × (stop ≤ length text)
  pub blanks : (k : ℕ) → end ≤ k → k < stop → is_blank (slice_index text k) ≡ true
  pub at_comma : stop < length text → slice_index text stop ≡ comma
  pub passed : next ≡ min (stop + 1) (length text)

-- the first element of what is left of the text, and where the rest begins
pub record IsNextItem (text : List ℕ) (from : ℕ) (item : Item) : Type 0 where
  pub after_from : from ≤ item.start
  pub not_empty : item.start < item.end
  pub ends_before_next : item.end ≤ item.next
  pub within : item.next ≤ length text
  pub behind : IsBehind text item.end item.next
  pub element : elements (drop from text) ≡ item_bytes text item ∷ elements (drop item.next text)

-- what calls give from a place on, each from where the one before says, up to the call that gives none
abbrev pub AreItemsFrom : List ℕ → ℕ → List Item → Type 0
AreItemsFrom text from [] = elements (drop from text) ≡ []
AreItemsFrom text from (item ∷ items) = IsNextItem text from item × AreItemsFrom text item.next items
