-- The parts of an image as a reader takes them.
use Rattle.std.specs.Prelude.{◌≡◌, ℕ, true, List, [], ◌∷◌, ◌++◌, length, All}
use Rattle.hc_text.specs.Texts.{IsSmall}
use Rattle.hc_target.specs.Targets.{is_target}
use Rattle.hc_record.specs.Head.{Head, IsHead}
use Rattle.hc_record.specs.Lines.{number_and_end}
use Rattle.hc_record.specs.Record.{IsRecordOf}
use Rattle.hc_sparse.specs.declared.run.Run.{Run}
use Rattle.hc_model.specs.Entries.{Content}
use Rattle.hc_image.specs.declared.item.ItemLine.{ItemLine}
use Rattle.hc_image.specs.declared.item.ItemNumbers.{ItemNumbers}
use Rattle.hc_image.specs.declared.read.FirstLines.{FirstLines}
use Rattle.hc_image.specs.declared.runs.RunLine.{RunLine}
use Rattle.hc_image.specs.Images.{HasRunText, lines_of, item_line, run_line}
use Rattle.hc_image.specs.Spelled.{SpellsItems}

abbrev pub lines_text : FirstLines → List ℕ
lines_text first = lines_of first.now first.last_consumer first.next_exchange first.count

pub record AreSmall (first : FirstLines) : Type 0 where
  pub now : IsSmall first.now
  pub last : IsSmall first.last_consumer
  pub next : IsSmall first.next_exchange
  pub count : IsSmall first.count

-- the line of an item: its key and a space, and its numbers
abbrev pub key_text : List ℕ → List ℕ
key_text key = key ++ 32 ∷ []

abbrev pub IsKey : List ℕ → Type 0
IsKey key = is_target key ≡ true

abbrev pub numbers_text : ItemNumbers → List ℕ
numbers_text n = number_and_end 32 n.r ++ number_and_end 10 n.count

pub record AreSmallNumbers (n : ItemNumbers) : Type 0 where
  pub r : IsSmall n.r
  pub count : IsSmall n.count

abbrev pub line_text : ItemLine → List ℕ
line_text line = item_line line.key line.numbers.r line.numbers.count

pub record HasItemLine (line : ItemLine) : Type 0 where
  pub key : is_target line.key ≡ true
  pub numbers : AreSmallNumbers line.numbers

-- the line of a run
abbrev pub run_numbers_text : RunLine → List ℕ
run_numbers_text line = run_line line.x line.at line.count

pub record AreSmallRun (line : RunLine) : Type 0 where
  pub x : IsSmall line.x
  pub place : IsSmall line.at
  pub count : IsSmall line.count

-- so many runs, each with small numbers
pub record AreRuns (count : ℕ) (runs : List Run) : Type 0 where
  pub each : All HasRunText runs
  pub count_is : length runs ≡ count

-- the text is a record of the head
abbrev pub SpellsHead : List ℕ → Head → Type 0
SpellsHead text head = IsHead head × IsRecordOf text head

-- the text is that of so many items
abbrev pub SpellsMany : ℕ → List ℕ → List Content → Type 0
SpellsMany count text items = SpellsItems text items × (length items ≡ count)
