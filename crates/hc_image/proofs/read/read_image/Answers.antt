use Rattle.std.proofs.Common.{refl, sym, ◌∙◌}
use Rattle.hc_image.proofs.Reading.{no_first_lines, no_items_left, found, back}
use Rattle.hc_image.proofs.read.read_image.Goals as goal

pub returns-in_default-clause-none : goal.returns-in_default-clause-none
returns-in_default-clause-none c = λ contents image rest spells same.
    no_first_lines contents image rest c.new-rest.result spells (same ∙ sym c.new-rest.ensures) c.in_default.ensures

pub returns-in_default-clause-back : goal.returns-in_default-clause-back
returns-in_default-clause-back c = λ contents image rest spells same. absurd
    (no_first_lines contents image rest c.new-rest.result spells (same ∙ sym c.new-rest.ensures) c.in_default.ensures)

pub returns-in_default-2-clause-none : goal.returns-in_default-2-clause-none
returns-in_default-2-clause-none c = λ contents image rest spells same.
    let first = c.in-Some.ensures in
    no_items_left contents image rest c.new-rest.result spells (same ∙ sym c.new-rest.ensures) c.in-Some.first c.take_first_lines.new.rest first.0 first.1
    (rw c.in_default-2.is at c.in_ok-items.ensures)

pub returns-in_default-2-clause-back : goal.returns-in_default-2-clause-back
returns-in_default-2-clause-back c = λ contents image rest spells same.
    let first = c.in-Some.ensures in absurd
    (no_items_left contents image rest c.new-rest.result spells (same ∙ sym c.new-rest.ensures) c.in-Some.first c.take_first_lines.new.rest first.0
    first.1 (rw c.in_default-2.is at c.in_ok-items.ensures))

pub returns-clause-found : goal.returns-clause-found
returns-clause-found c =
    let first = c.in-Some.ensures in
    let items = rw c.in-Some-2.is at c.in_ok-items.ensures in
    found c.in-Some.first c.in-Some-2.items items.0 c.take_first_lines.new.rest c.take_items.new.rest c.args.text.now c.rest.result.now first.0
    (first.1 ∙ c.new-rest.ensures) items.1 items.2 c.rest.ensures

pub returns-clause-back : goal.returns-clause-back
returns-clause-back c = λ contents image rest spells same.
    let first = c.in-Some.ensures in
    let items = rw c.in-Some-2.is at c.in_ok-items.ensures in (
      refl,
      back c.in-Some.first c.in-Some-2.items items.0 c.take_first_lines.new.rest c.take_items.new.rest c.args.text.now c.rest.result.now first.0
          (first.1 ∙ c.new-rest.ensures) items.1 items.2 c.rest.ensures contents image rest spells same,
    )
