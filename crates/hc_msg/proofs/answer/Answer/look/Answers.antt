use Rattle.std.proofs.Common.{◌≡◌, ◌<◌, true, false, length, rules}
use Rattle.hc_msg.specs.{Inputs.{stopped, is_in_body, look_of}, Taking.{reading_of, goes_on}}
use Rattle.hc_msg.proofs.{Looks.{empty_looks, over_looks, body_looks, kept_sound}, answer.Answer.look.Goals.{then-is_empty-via-then-is_empty, then-is_empty-via-else-is_empty+then-not-goes_on}}
use Rattle.hc_msg.proofs.answer.Answer.look.Goals as goal

pub returns-then-is_empty : goal.returns-then-is_empty
returns-then-is_empty c =
    let a = c.args.self.now in
    let is : c.stopped.result ≡ look_of (stopped (reading_of a)) = c.stopped.ensures a.no_body a.held.items in
    elim c.then-is_empty.branch [
      | then-is_empty-via-then-is_empty w ↦ empty_looks (reading_of a) c.args.piece.now c.stopped.result (search rules) is
      | then-is_empty-via-else-is_empty+then-not-goes_on w ↦
          (let over : goes_on (reading_of a) ≡ false = search rules in over_looks (reading_of a) c.args.piece.now c.stopped.result over is)
    ]

pub returns-then-is_in_body : goal.returns-then-is_in_body
returns-then-is_in_body c =
    let a = c.args.self.now in
    let some : 0 < length c.args.piece.now = search rules in
    let on : goes_on (reading_of a) ≡ true = search rules in
    let inside : is_in_body (reading_of a) ≡ true = search rules in
    body_looks (reading_of a) c.args.piece.now some on inside

pub look_ahead-requires : goal.look_ahead-requires
look_ahead-requires c =
    let a = c.args.self.now in
    let on : goes_on (reading_of a) ≡ true = search rules in
    kept_sound a.no_body a.state a.held.items on c.requires
