use Rattle.hc_image.proofs.Taken.{number_taken}
use Rattle.hc_image.proofs.cursor.Cursor.take_number.Goals as goal

pub returns : goal.returns
returns c =
    number_taken c.args.end c.args.self.now c.take_to.new.self c.in_ok-take_to.field-0.now c.read_plain.result c.requires c.in_ok-take_to.ensures.0
    c.in_ok-take_to.ensures.1 c.read_plain.ensures.found c.read_plain.ensures.none
