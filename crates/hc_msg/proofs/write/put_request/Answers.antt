use Rattle.std.{proofs.Common.{◌++◌, rules}, specs.Prelude.{codes}}
use Rattle.hc_msg.specs.Writing.{crlf, lines_of, host_line, request_line}
use Rattle.hc_msg.proofs.Chains.{four}
use Rattle.hc_msg.proofs.write.put_request.Goals as goal

pub returns-clause-ok : goal.returns-clause-ok
returns-clause-ok c =
    let r = c.args.request.now in
    four c.args.to.now.items c.put_request_line.new.to.items c.put_host.new.to.items c.put_lines.new.to.items c.extend_from_slice.new.self.items
    (request_line r.method c.args.url.now) (host_line c.args.url.now) (lines_of r.fields) (codes "connection: close" ++ (crlf ++ crlf))
    (search rules) (search rules) (search rules) c.in_ok-extend_from_slice.ensures.items
