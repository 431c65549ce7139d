use Rattle.std.proofs.Common.{Some, Err, refl, arith}
use Rattle.hc_saving.specs.Recovers.{bytes_of}
use Rattle.hc_keeping.proofs.FromFiles.{no_fault, text_found, text_refused}
use Rattle.hc_keeping.proofs.keeping.recover_text.Goals as goal

pub new-behind-requires : goal.new-behind-requires
new-behind-requires c = c.requires.text

pub overflow_add-result : goal.overflow_add-result
overflow_add-result c = (let small = c.requires.number in omega (arith, small))

pub returns-in-Ok : goal.returns-in-Ok
returns-in-Ok c =
    let s = c.args.said in
    text_found c.args.limits (bytes_of s.image) s.number s.text.items c.new-behind.result (Some c.recover.new.behind.left) c.new-behind.ensures
    c.in-Ok.contents c.in-Ok.ensures.recovers

pub returns : goal.returns
returns c =
    let s = c.args.said in
    text_refused c.args.limits (bytes_of s.image) s.number s.text.items c.new-behind.result (Some c.recover.new.behind.left) c.new-behind.ensures
    c.in-Err.why c.in-Err.ensures.recovers (no_fault c.in-Err.why (Err c.in-Err.why) refl c.in-Err.ensures.source)
