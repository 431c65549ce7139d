use Rattle.std.proofs.lemmas.List.{take_rest}
use Rattle.hc_record.proofs.cursor.Cursor.take_fields.Goals as goal

pub returns : goal.returns
returns c =
    let found = rw c.in-Some.is at c.in_ok-fields.ensures.found in
    (found.0, rw (take_rest c.self.inside.rest.now c.in-Some.len, found.2, ← c.self.view_is) found.1)
