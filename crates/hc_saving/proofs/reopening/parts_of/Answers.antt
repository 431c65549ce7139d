use Rattle.std.proofs.{Common.{ℕ, List, ◌++◌, take, ap, ◌∙◌, subst}, lemmas.List.{take-append-drop}}
use Rattle.hc_contents.specs.PlainContents.{plain_contents}
use Rattle.hc_image.specs.{Readings.{BeginsWithNone}, Spelled.{SpellsImage}}
use Rattle.hc_saving.specs.Opens as opens
use Rattle.hc_saving.proofs.reopening.parts_of.Goals as goal

pub returns-in-Ok-None-clause-none : goal.returns-in-Ok-None-clause-none
returns-in-Ok-None-clause-none c = opens.none (subst BeginsWithNone c.as_slice.ensures.value (rw c.in-Ok-None.field-0-is at c.in-Ok-None.ensures.none))

pub returns-in-Err-clause-none : goal.returns-in-Err-clause-none
returns-in-Err-clause-none c = opens.unread

pub returns-in-Ok-clause-found : goal.returns-in-Ok-clause-found
returns-in-Ok-clause-found c =
    let found = rw c.in-Ok-Some.field-0-is at c.in-Ok-Some.ensures.found in
    let used = c.in-Ok-Some.image.used in
    record {
      image = take used c.args.text.items;
      is_image = subst (λ (l : List ℕ). SpellsImage (take used l) (plain_contents c.in-Ok-Some.image.contents)) c.as_slice.ensures.value found.spells;
      text_is = ap (λ (l : List ℕ). take used c.args.text.items ++ l) c.in-Ok.ensures.tail ∙ take-append-drop used c.args.text.items;
    }

pub returns-clause-none : goal.returns-clause-none
returns-clause-none c = opens.unread
