-- The grammar of images: which text spells which contents. A record may be of either version.
use Rattle.std.specs.Prelude.{◌≡◌, ℕ, List, [], ◌∷◌, ◌++◌, length}
use Rattle.hc_record.specs.Record.{IsRecordOf}
use Rattle.hc_model.specs.Entries.{Content, Contents}
use Rattle.hc_image.specs.Images.{HasItemText, HasFirstLines, item_line, runs_text, first_lines}

-- the text is the line of an item, a record of its head, and its runs
pub record SpellsItem (text : List ℕ) (item : Content) : Type 0 where
  pub has_text : HasItemText item
  pub head_text : List ℕ
  pub is_record : IsRecordOf head_text item.head
  pub text_is :
      item_line item.key item.r (length item.runs) ++ (head_text ++ runs_text item.runs) ≡ text

-- the text is that of these items, one after another
abbrev pub SpellsItems : List ℕ → List Content → Type 0
SpellsItems text [] = text ≡ []
SpellsItems text (item ∷ items) =
    (one : List ℕ) × (others : List ℕ) × SpellsItem one item × SpellsItems others items
    × (one ++ others ≡ text)

-- the text is an image of the contents: the first lines, and then the items
pub record SpellsImage (text : List ℕ) (contents : Contents) : Type 0 where
  pub has_lines : HasFirstLines contents
  pub item_texts : List ℕ
  pub items : SpellsItems item_texts contents.items
  pub text_is : first_lines contents ++ item_texts ≡ text
