use Rattle.std.{proofs.Common.{[], ◌∷◌, ◌++◌}, specs.Prelude.{codes}}
use Rattle.hc_binary.proofs.Rooms.{puts_then}
use Rattle.hc_binary.proofs.copies.put_line.Goals as goal

pub returns-clause-puts : goal.returns-clause-puts
returns-clause-puts c =
    puts_then _ _ _ _ _ _ (c.args.name.now ++ codes ": " ++ c.args.value.now) (10 ∷ [])
    (puts_then _ _ _ _ _ _ (c.args.name.now ++ codes ": ") c.args.value.now
    (puts_then _ _ _ _ _ _ c.args.name.now (codes ": ") c.put-at.ensures.puts c.put-at-2.ensures.puts)
    c.put-at-3.ensures.puts)
    c.put.ensures.puts
