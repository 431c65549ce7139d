use Rattle.hc_record.specs.Plain.{plain}
use Rattle.hc_image.proofs.Items.{no_item_line, no_head, no_runs_left, item_read}
use Rattle.hc_image.proofs.item.take_item.Goals as goal

pub returns-in_default : goal.returns-in_default
returns-in_default c = λ item part after spells same.
    no_item_line item part after c.args.rest.now spells same (rw c.in_default.is at c.in_ok-line.ensures)

pub returns-in_default-2 : goal.returns-in_default-2
returns-in_default-2 c = λ item part after spells same.
    let line = rw c.in-Some.is at c.in_ok-line.ensures in
    no_head item part after c.args.rest.now spells same c.in-Some.line c.take_item_line.new.rest line.0 line.1 (rw c.in_default-2.is at c.in_ok-head.ensures)

pub returns-in_default-3 : goal.returns-in_default-3
returns-in_default-3 c = λ item part after spells same.
    let line = rw c.in-Some.is at c.in_ok-line.ensures in
    let head = rw c.in-Some-2.is at c.in_ok-head.ensures in
    no_runs_left item part after c.args.rest.now spells same c.in-Some.line c.take_item_line.new.rest line.0 line.1 (plain c.in-Some-2.head) head.0
    c.take_record.new.text head.1 head.2 (rw c.in_default-3.is at c.in_ok-runs.ensures)

pub returns : goal.returns
returns c =
    let line = rw c.in-Some.is at c.in_ok-line.ensures in
    let head = rw c.in-Some-2.is at c.in_ok-head.ensures in
    let runs = rw c.in-Some-3.is at c.in_ok-runs.ensures in
    item_read c.in-Some.line (plain c.in-Some-2.head) c.in-Some-3.runs head.0 c.args.rest.now c.take_item_line.new.rest c.take_record.new.text
    c.take_runs.new.rest line.0 line.1 head.1 head.2 runs.0 runs.1
