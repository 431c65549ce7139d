use Rattle.std.proofs.{Common.{◌≡◌, ◌-◌, Err, take, drop, length, length-drop, arith, rules}, lemmas.List.{take_all}}
use Rattle.hc_msg.specs.Taking.{reading_of}
use Rattle.hc_msg.proofs.Moves.{passes_on, gives_on, fails_on}
use Rattle.hc_msg.proofs.answer.Answer.take.Goals as goal

pub returns-in_err-n-clause-takes : goal.returns-in_err-n-clause-takes
returns-in_err-n-clause-takes c =
    let piece = c.args.piece.now in
    let used = c.loop-used.used in
    let e = c.in_err-n.field-0.0 in
    let same : c.from_residual.result ≡ Err e = search rules in
    let all : take (length piece - used) (drop used piece) ≡ drop used piece =
    take_all (length piece - used) (drop used piece) (omega (arith, length-drop used piece)) in
    let moves = rw all at c.in_err-n.ensures.moves in
    rw same (fails_on (reading_of c.args.self.now) (reading_of c.loop-used.self) piece used e c.loop-used.invariant.leads moves)

pub loop-used-preserved : goal.loop-used-preserved
loop-used-preserved c =
    let piece = c.args.piece.now in
    let used = c.loop-used.used in
    let all : take (length piece - used) (drop used piece) ≡ drop used piece =
    take_all (length piece - used) (drop used piece) (omega (arith, length-drop used piece)) in
    let tokens = rw c.in-Passes.is at c.in_ok-n.ensures.moves in
    let moves = rw all at tokens in
    record {
      leads = passes_on (reading_of c.args.self.now) (reading_of c.loop-used.self) (reading_of c.step.new.self) piece used c.in-Passes.n
          c.loop-used.invariant.leads moves.2;
      sound = c.in_ok-n.ensures.sound;
      within = omega (arith, moves.1, length-drop used piece);
    }

pub returns-in-Gives-clause-takes : goal.returns-in-Gives-clause-takes
returns-in-Gives-clause-takes c =
    let piece = c.args.piece.now in
    let used = c.loop-used.used in
    let all : take (length piece - used) (drop used piece) ≡ drop used piece =
    take_all (length piece - used) (drop used piece) (omega (arith, length-drop used piece)) in
    let tokens = rw c.in-Gives.is at c.in_ok-n.ensures.moves in
    let moves = rw all at tokens in
    gives_on (reading_of c.args.self.now) (reading_of c.loop-used.self) (reading_of c.step.new.self) piece used c.in-Gives.n c.args.most c.in-Gives.part
    c.loop-used.invariant.within c.loop-used.invariant.leads moves
