use Rattle.hc_fields.specs.Lines.{fields_text}
use Rattle.std.proofs.Common.{◌++◌}
use Rattle.hc_binary.proofs.Rooms.{puts_then}
use Rattle.hc_binary.proofs.copies.put_request.Goals as goal

pub returns-clause-puts : goal.returns-clause-puts
returns-clause-puts c =
    puts_then _ _ _ _ _ _ c.args.request.now.method (c.args.request.now.key ++ fields_text c.args.request.now.fields)
    (rw c.method_of.ensures at c.put-at.ensures.puts)
    (puts_then _ _ _ _ _ _ c.args.request.now.key (fields_text c.args.request.now.fields) (rw c.target_of.ensures at c.put-at-2.ensures.puts)
    c.put_lines.ensures.puts)
