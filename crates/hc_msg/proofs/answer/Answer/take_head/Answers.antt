use Rattle.std.proofs.Common.{◌≡◌, Err, rules}
use Rattle.hc_msg.specs.Reading.{Done}
use Rattle.hc_msg.proofs.Moves.{head_moves, head_fails, head_long, head_open}
use Rattle.hc_msg.proofs.answer.Answer.take_head.Goals as goal

pub returns-in_err-n-clause-moves : goal.returns-in_err-n-clause-moves
returns-in_err-n-clause-moves c = λ most.
    let e = c.in_err-n.field-0.0 in
    let same : c.from_residual.result ≡ Err e = search rules in
    let tokens = rw c.as_slice.ensures.value at c.in_err-n.ensures in
    rw same (head_long c.args.self.now.no_body c.args.scan c.args.self.now.held.items c.args.rest.now most e Done tokens.0 tokens.1)

pub returns-in_err-reply-in-Ends-clause-moves : goal.returns-in_err-reply-in-Ends-clause-moves
returns-in_err-reply-in-Ends-clause-moves c = λ most.
    let e = c.in_err-reply-in-Ends.field-0.0 in
    let same : c.from_residual-in_err-reply-in-Ends.result ≡ Err e = search rules in
    let found = rw c.in-Ends.is at c.in_ok-n.ensures in
    let tokens = rw c.as_slice.ensures.value at found in
    rw same (head_fails c.args.self.now.no_body c.args.scan c.args.self.now.held.items c.args.rest.now c.in-Ends.n most e e c.whole_head.result Done
    tokens.0 tokens.1 c.whole_head.ensures.replied c.in_err-reply-in-Ends.was (λ i. e))

pub returns-in_ok-reply-in-Ends-clause-moves : goal.returns-in_ok-reply-in-Ends-clause-moves
returns-in_ok-reply-in-Ends-clause-moves c = λ most.
    let found = rw c.in-Ends.is at c.in_ok-n.ensures in
    let tokens = rw c.as_slice.ensures.value at found in
    let enters = rw c.whole_head.ensures.kept at c.enter.ensures.enters in
    head_moves c.args.self.now.no_body c.args.scan c.args.self.now.held.items c.args.rest.now c.in-Ends.n most c.in_ok-reply-in-Ends.reply
    c.whole_head.result c.enter.result _ tokens.0 tokens.1 tokens.2 c.whole_head.ensures.replied c.in_ok-reply-in-Ends.was enters

pub returns-in_ok-extend_from_slice-in-Open-clause-moves : goal.returns-in_ok-extend_from_slice-in-Open-clause-moves
returns-in_ok-extend_from_slice-in-Open-clause-moves c = λ most.
    let found = rw c.in-Open.is at c.in_ok-n.ensures in
    let tokens = rw c.as_slice.ensures.value at found in
    head_open c.args.self.now.no_body c.args.scan c.in-Open.next c.args.self.now.held.items c.args.rest.now c.extend_from_slice.new.self.items most
    tokens.0 tokens.1 (search rules) c.requires.some
