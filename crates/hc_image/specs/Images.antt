-- The image that is written of contents, by its lines, items and runs, and what has one.
use Rattle.std.specs.Prelude.{◌≡◌, ℕ, List, [], ◌∷◌, ◌++◌, length, codes, All, true}
use Rattle.hc_text.specs.Texts.{IsSmall}
use Rattle.hc_target.specs.Targets.{is_target}
use Rattle.hc_record.specs.Head.{IsHead}
use Rattle.hc_record.specs.Lines.{number_and_end}
use Rattle.hc_record.specs.Record.{spelling}
use Rattle.hc_record.specs.declared.version.Version.TheVariants.{Second}
use Rattle.hc_sparse.specs.declared.run.Run.{Run}
use Rattle.hc_model.specs.Entries.{Content, Contents}

-- ITS TEXT

-- the line of a run: its exchange, its first position and its length
abbrev pub run_line : ℕ → ℕ → ℕ → List ℕ
run_line x at count =
    codes "run " ++ (number_and_end 32 x ++ (number_and_end 32 at ++ number_and_end 10 count))

-- a run: its line, its bytes and a line feed
abbrev pub run_text : Run → List ℕ
run_text run = run_line run.x run.at (length run.bytes) ++ (run.bytes ++ 10 ∷ [])

abbrev pub runs_text : List Run → List ℕ
runs_text [] = []
runs_text (run ∷ runs) = run_text run ++ runs_text runs

-- the line of an item: its key, its number, and how many runs it has
abbrev pub item_line : List ℕ → ℕ → ℕ → List ℕ
item_line key r count =
    codes "item " ++ (key ++ 32 ∷ (number_and_end 32 r ++ number_and_end 10 count))

-- an item: its line, the record of its head, and its runs
abbrev pub item_text : Content → List ℕ
item_text item =
    item_line item.key item.r (length item.runs)
    ++ (spelling Second item.head ++ runs_text item.runs)

abbrev pub items_text : List Content → List ℕ
items_text [] = []
items_text (item ∷ items) = item_text item ++ items_text items

-- the line of the image's version, and that of a moment, two numbers and a count of items
abbrev pub lines_of : ℕ → ℕ → ℕ → ℕ → List ℕ
lines_of now last next count =
    codes "image 1" ++ 10 ∷ (number_and_end 32 now ++ (number_and_end 32 last
    ++ (number_and_end 32 next ++ number_and_end 10 count)))

abbrev pub first_lines : Contents → List ℕ
first_lines contents =
    lines_of contents.now contents.last_consumer contents.next_exchange (length contents.items)

-- the image that is written: its records have the second version
abbrev pub image_of : Contents → List ℕ
image_of contents = first_lines contents ++ items_text contents.items

-- WHAT HAS ONE

-- the numbers of a run are small
pub record HasRunText (run : Run) : Type 0 where
  pub x : IsSmall run.x
  pub place : IsSmall run.at
  pub count : IsSmall (length run.bytes)

-- the key of an item is a target, its head has a record, and its numbers are small
pub record HasItemText (item : Content) : Type 0 where
  pub key : is_target item.key ≡ true
  pub r : IsSmall item.r
  pub head : IsHead item.head
  pub count : IsSmall (length item.runs)
  pub runs : All HasRunText item.runs

-- the numbers of the first lines are small
pub record HasFirstLines (contents : Contents) : Type 0 where
  pub now : IsSmall contents.now
  pub last : IsSmall contents.last_consumer
  pub next : IsSmall contents.next_exchange
  pub count : IsSmall (length contents.items)

pub record HasImage (contents : Contents) : Type 0 where
  pub first : HasFirstLines contents
  pub items : All HasItemText contents.items
