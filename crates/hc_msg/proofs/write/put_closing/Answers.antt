use Rattle.std.proofs.Common.{rules}
use Rattle.hc_msg.proofs.Chains.{closing}
use Rattle.hc_msg.proofs.write.put_closing.Goals as goal

pub returns-clause-ok : goal.returns-clause-ok
returns-clause-ok c =
    closing c.args.response.now c.args.to.now.items c.put_status.new.to.items c.put_lines.new.to.items c.extend_from_slice.new.self.items
    (search rules) (search rules) c.in_ok-extend_from_slice.ensures.items
