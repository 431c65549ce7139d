use Rattle.std.{proofs.Common.{◌≡◌, ◌++◌, Result, Ok, Err, subst}, specs.Prelude.{OnOk, None}}
use Rattle.url.specs.{Parts.{Parts}, Parser.{parse_url}}
use Rattle.hc_text.specs.declared.memory.NoMemory.{NoMemory}
use Rattle.hc_msg.specs.Writing.{request_text}
use Rattle.hc_head.proofs.Keys.{same_read}
use Rattle.hc_msg.proofs.write.write_request.Goals as goal

pub returns-clause-ok : goal.returns-clause-ok
returns-clause-ok c = on c.put_whole_request.result c.put_whole_request.ensures.ok where
  on : (r : Result (Unit {0}) NoMemory) → OnOk r (c.put_whole_request.new.to.items ≡ c.args.to.now.items ++ request_text c.args.request.now c.in_ok-url.url)
      → OnOk r ((url : Parts) → parse_url None c.args.request.now.key ≡ Ok url → c.put_whole_request.new.to.items ≡ c.args.to.now.items ++
      request_text c.args.request.now url)
  on (Ok v) is = λ url reads.
      subst (λ (u : Parts). c.put_whole_request.new.to.items ≡ c.args.to.now.items ++ request_text c.args.request.now u)
      (same_read _ c.in_ok-url.url url c.in_ok-url.ensures reads) is
  on (Err e) is = is
