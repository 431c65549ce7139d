-- An image that is read: its first lines, and then its items.
--
-- Where a text begins with an image, what is left behind its first lines begins with its items. So where
-- either can't be taken, no image begins the text. Where both are taken, they are an image, and each
-- image that begins the text is this one.
use Rattle.std.{proofs.{Common.{◌≡◌, ◌≢◌, ℕ, ◌+◌, ◌-◌, map, List, [], ◌∷◌, ◌++◌, length, take, refl, sym, ap, ◌∙◌, arith, length-append}, lemmas.List.{append_assoc, append_cancel_left, take_at}}, specs.Prelude.{codes}}
use Rattle.hc_record.proofs.Once.{ended_once}
use Rattle.hc_model.specs.Entries.{Content, Contents}
use Rattle.hc_contents.specs.declared.contents.Content as coded
use Rattle.hc_contents.specs.declared.contents.Contents as coded_contents
use Rattle.hc_contents.specs.PlainContents.{plain_item, plain_contents}
use Rattle.hc_image.specs.{declared.read.{FirstLines.{FirstLines}, ImageRead.{ImageRead}}, Images.{first_lines}, Parts.{AreSmall, SpellsMany, lines_text}, Readings.{IsReadFrom, IsReadBack}, Spelled.{SpellsImage}}
use Rattle.hc_image.proofs.Once.{lines_apart, image_once}

-- a text that begins with an image
module _ (contents : Contents) (image rest text : List ℕ) (spells : SpellsImage image contents) (same : image ++ rest ≡ text) where
  whole : first_lines contents ++ (spells.item_texts ++ rest) ≡ text
  whole = sym (append_assoc (first_lines contents) spells.item_texts rest) ∙ (ap (λ (l : List ℕ). l ++ rest) spells.text_is ∙ same)

  pub no_first_lines : ((first : FirstLines) (after : List ℕ) → AreSmall first → lines_text first ++ after ≢ text) → ⊥
  no_first_lines none =
      none (record { now = contents.now; last_consumer = contents.last_consumer; next_exchange = contents.next_exchange; count = length contents.items }) _
      (record { now = spells.has_lines.now; last = spells.has_lines.last; next = spells.has_lines.next; count = spells.has_lines.count }) whole

  module _ (first : FirstLines) (mid : List ℕ) (small : AreSmall first) (taken : lines_text first ++ mid ≡ text) where
    after_lines : (length contents.items ≡ first.count) × (spells.item_texts ++ rest ≡ mid)
    after_lines =
        let has = spells.has_lines in
        let apart = sym (lines_apart contents.now contents.last_consumer contents.next_exchange (length contents.items) (spells.item_texts ++ rest)) ∙
        (whole ∙ (sym taken ∙ lines_apart first.now first.last_consumer first.next_exchange first.count mid)) in
        let one = ended_once 32 contents.now first.now _ _ (omega arith) has.now small.now (append_cancel_left (codes "image 1" ++ 10 ∷ []) _ _ apart) in
        let two = ended_once 32 contents.last_consumer first.last_consumer _ _ (omega arith) has.last small.last one.1 in
        let three = ended_once 32 contents.next_exchange first.next_exchange _ _ (omega arith) has.next small.next two.1 in
        ended_once 10 (length contents.items) first.count (spells.item_texts ++ rest) mid (omega arith) has.count small.count three.1

    pub no_items_left : ((items : List Content) (part after : List ℕ) → SpellsMany first.count part items → part ++ after ≢ mid) → ⊥
    no_items_left none = none contents.items spells.item_texts rest (spells.items, after_lines.0) after_lines.1

-- an image whose parts were taken
module _ (first : FirstLines) (items : List coded.Content) (part mid rest text left : List ℕ) (small : AreSmall first)
    (taken : lines_text first ++ mid ≡ text) (spells : SpellsMany first.count part (map plain_item items)) (is : part ++ rest ≡ mid)
    (left_is : left ≡ rest) where
  abbrev read_contents : coded_contents.Contents
  read_contents = record { now = first.now; last_consumer = first.last_consumer; next_exchange = first.next_exchange; items = items }

  abbrev read : ImageRead
  read = record { contents = read_contents; used = length text - length left }

  abbrev image : List ℕ
  image = lines_text first ++ part

  whole_is : image ++ rest ≡ text
  whole_is = append_assoc (lines_text first) part rest ∙ (ap (λ (l : List ℕ). lines_text first ++ l) is ∙ taken)

  lengths : length image + length left ≡ length text
  lengths = omega (arith, ap length whole_is, length-append image rest, ap length left_is)

  used_is : length text - length left ≡ length image
  used_is = let all = lengths in omega (arith, all)

  spelled : SpellsImage image (plain_contents read_contents)
  spelled =
      let count = spells.1 in
      record {
        has_lines = record { now = small.now; last = small.last; next = small.next; count = rw count small.count };
        item_texts = part;
        items = spells.0;
        text_is = rw count refl;
      }

  pub found : IsReadFrom text read
  found =
      let all = lengths in
      let front : image ≡ take (length text - length left) text =
      sym (take_at image rest (length image) refl) ∙ (ap (take (length image)) whole_is ∙ ap (λ (n : ℕ). take n text) (sym used_is)) in
      record {
        within = omega (arith, all);
        spells = rw (← front) spelled;
      }

  pub back : (reported : Contents) (other after : List ℕ) → SpellsImage other reported → other ++ after ≡ text → IsReadBack reported other read
  back reported other after spells_other same =
      let once = image_once image other (plain_contents read_contents) reported rest after spelled spells_other (whole_is ∙ sym same) in
      let all = lengths in
      record {
        contents = once.0;
        used = omega (arith, all, ap length same, length-append other after, ap length once.1, ap length left_is);
      }
