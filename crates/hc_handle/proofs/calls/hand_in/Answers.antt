use Rattle.std.proofs.Common.{Some, rules}
use Rattle.hc_handle.specs.Calls.{answer_code}
use Rattle.hc_handle.proofs.Coming.{comes_some, comes_at}
use Rattle.hc_handle.proofs.calls.hand_in.Goals as goal

pub returns : goal.returns
returns c = λ made makes.
    comes_at _ (Some c.deref_mut.result.now) _ (Some c.answer-answered.new.self) c.args.now made c.code_of.result (answer_code c.answer-answered.result)
    (search rules) (search rules) c.code_of.ensures
    (comes_some c.deref_mut.result.now c.answer-answered.new.self c.args.now made c.args.given c.answer-answered.result makes c.answer-answered.ensures)
