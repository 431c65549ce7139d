-- An item that is read part by part: its line, its record, its runs.
--
-- Where a text begins with an item, what is left behind its line begins with its record, and what is left
-- behind that with its runs. So where a part can't be taken, no item begins the text. Where all are taken,
-- they are an item, and what is left stands behind it.
use Rattle.std.proofs.{Common.{◌≡◌, ◌≢◌, ℕ, List, ◌++◌, length, refl, sym, ap, ◌∙◌}, lemmas.List.{append_assoc}}
use Rattle.hc_record.specs.Head.{Head}
use Rattle.hc_sparse.specs.declared.run.Run.{Run}
use Rattle.hc_model.specs.Entries.{Content}
use Rattle.hc_image.specs.{declared.item.ItemLine.{ItemLine}, Images.{item_line, runs_text}, Parts.{AreRuns, HasItemLine, SpellsHead, line_text}, Spelled.{SpellsItem}}
use Rattle.hc_image.proofs.Once.{SameLine, line_once, item_parts, head_once}

-- a text that begins with an item
module _ (item : Content) (part after old : List ℕ) (spells : SpellsItem part item) (same : part ++ after ≡ old) where
  whole : item_line item.key item.r (length item.runs) ++ (spells.head_text ++ (runs_text item.runs ++ after)) ≡ old
  whole = sym (item_parts part item after spells) ∙ same

  pub no_item_line : ((line : ItemLine) (more : List ℕ) → HasItemLine line → line_text line ++ more ≢ old) → ⊥
  no_item_line none =
      none (record { key = item.key; numbers = record { r = item.r; count = length item.runs } }) _
      (record { key = spells.has_text.key; numbers = record { r = spells.has_text.r; count = spells.has_text.count } }) whole

  module _ (line : ItemLine) (mid : List ℕ) (has : HasItemLine line) (taken : line_text line ++ mid ≡ old) where
    pub after_line : SameLine item.key line.key item.r line.numbers.r (length item.runs) line.numbers.count
        (spells.head_text ++ (runs_text item.runs ++ after)) mid
    after_line =
        line_once item.key line.key item.r line.numbers.r (length item.runs) line.numbers.count _ mid spells.has_text.key has.key spells.has_text.r
        has.numbers.r spells.has_text.count has.numbers.count (whole ∙ sym taken)

    pub no_head : ((head : Head) (text more : List ℕ) → SpellsHead text head → text ++ more ≢ mid) → ⊥
    no_head none = none item.head spells.head_text _ (spells.has_text.head, spells.is_record) after_line.rest

    module _ (head : Head) (text left : List ℕ) (spelled : SpellsHead text head) (read : text ++ left ≡ mid) where
      after_head : runs_text item.runs ++ after ≡ left
      after_head =
          let own = spells.is_record in
          let other = spelled.1 in
          let same_text = ap (λ (l : List ℕ). l ++ (runs_text item.runs ++ after)) own.1 ∙
          (after_line.rest ∙ (sym read ∙ ap (λ (l : List ℕ). l ++ left) (sym other.1))) in
          (head_once item.head head own.0 other.0 (runs_text item.runs ++ after) left spells.has_text.head spelled.0 same_text).1

      pub no_runs_left : ((runs : List Run) (more : List ℕ) → AreRuns line.numbers.count runs → runs_text runs ++ more ≢ left) → ⊥
      no_runs_left none =
          none item.runs after (record { each = spells.has_text.runs; count_is = after_line.count }) after_head

-- an item whose parts were taken
pub item_read : (line : ItemLine) (head : Head) (runs : List Run) (text old mid left rest : List ℕ) → HasItemLine line → line_text line ++ mid ≡ old →
    SpellsHead text head → text ++ left ≡ mid → AreRuns line.numbers.count runs → runs_text runs ++ rest ≡ left
    → (part : List ℕ) × SpellsItem part (record { key = line.key; r = line.numbers.r; head = head; runs = runs }) × (part ++ rest ≡ old)
item_read line head runs text old mid left rest has taken spelled read are is =
    let count = are.count_is in
    let whole : (line_text line ++ (text ++ runs_text runs)) ++ rest ≡ old =
    append_assoc (line_text line) (text ++ runs_text runs) rest
    ∙ (ap (λ (l : List ℕ). line_text line ++ l) (append_assoc text (runs_text runs) rest ∙ (ap (λ (l : List ℕ). text ++ l) is ∙ read)) ∙ taken) in (
      line_text line ++ (text ++ runs_text runs),
      record {
        has_text = record { key = has.key; r = has.numbers.r; head = spelled.0; count = rw count has.numbers.count; runs = are.each };
        head_text = text;
        is_record = spelled.1;
        text_is = rw count refl;
      },
      whole,
    )
