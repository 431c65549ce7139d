use Rattle.std.proofs.{Common.{sym, ◌∙◌, codes, ◌∷◌, []}, lemmas.List.{append_assoc, append_cancel_left}}
use Rattle.hc_text.proofs.Cuts.{cut_once}
use Rattle.hc_record.specs.Lines.{number_and_end}
use Rattle.hc_image.proofs.Once.{item_apart, lacks-target}
use Rattle.hc_image.proofs.item.take_item_line.Goals as goal

pub returns-in_default-2 : goal.returns-in_default-2
returns-in_default-2 c = λ line after has same.
    let none = rw c.in_default-2.is at c.in_ok-key.ensures in
    let zero = append_cancel_left (codes "item ") _ _ (sym (item_apart line.key line.numbers.r line.numbers.count after) ∙ (same ∙ sym c.in-Some.ensures)) in
    none line.key _ has.key (append_assoc line.key (32 ∷ []) _ ∙ zero)

pub returns-in_default-take_item_numbers : goal.returns-in_default-take_item_numbers
returns-in_default-take_item_numbers c = λ line after has same.
    let some = rw c.in-Some-2.is at c.in_ok-key.ensures in
    let zero = append_cancel_left (codes "item ") _ _ (sym (item_apart line.key line.numbers.r line.numbers.count after) ∙ (same ∙ sym c.in-Some.ensures)) in
    let keys = cut_once 32 line.key _ c.in-Some-2.key c.take_key.new.rest (lacks-target line.key has.key) (lacks-target c.in-Some-2.key some.0)
    (zero ∙ (sym some.1 ∙ append_assoc c.in-Some-2.key (32 ∷ []) c.take_key.new.rest)) in
    c.in_default-take_item_numbers.ensures line.numbers after has.numbers
    (append_assoc (number_and_end 32 line.numbers.r) (number_and_end 10 line.numbers.count) after ∙ keys.1)
