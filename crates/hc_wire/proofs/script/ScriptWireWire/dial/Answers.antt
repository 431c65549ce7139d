use Rattle.std.proofs.Common.{◌≡◌, ℕ, ◌+◌, List, ◌++◌, ◌∷◌, [], sym, ap, ◌∙◌, arith}
use Rattle.hc_wire.specs.{declared.script.ScriptWire.{ScriptWire}, Logs.{Taker, stage_in, fresh}}
use Rattle.hc_wire.proofs.LogLemmas.{stages-fresh}
use Rattle.hc_wire.proofs.script.ScriptWireWire.dial.Goals as goal

pub returns-clause-stages : goal.returns-clause-stages
returns-clause-stages c = λ j.
    let k : ℕ = c.greatest_in-greatest.result + 1 in
    let before = ap (λ (w : ScriptWire). w.connections.items) c.is_failing.ensures.kept in
    let unseen = c.greatest_in-greatest.ensures.above k (omega arith) in
    let is : c.push_reserved.new.self.items ≡ c.args.self.now.connections.items ++ fresh k ∷ [] =
    c.push_reserved.ensures.items ∙ (ap (λ (t : Taker). c.reserve.new.self.items ++ t ∷ []) c.new.ensures
    ∙ ap (λ (cs : List Taker). cs ++ fresh k ∷ []) (c.in_ok-reserve.ensures.items ∙ before)) in
    ap (λ (cs : List Taker). stage_in cs j) is
    ∙ stages-fresh k c.args.self.now.connections.items j (ap (λ (cs : List Taker). stage_in cs k) (sym (c.as_slice.ensures.value ∙ before)) ∙ unseen)

pub returns-clause-next_number : goal.returns-clause-next_number
returns-clause-next_number c =
    let greatest : ℕ = c.greatest_in-greatest.result in
    let before = ap (λ (w : ScriptWire). w.connections.items) c.is_failing.ensures.kept in
    let here : c.as_slice.result.now ≡ c.args.self.now.connections.items = c.as_slice.ensures.value ∙ before in
    record {
      some = omega arith;
      above = λ j le. ap (λ (cs : List Taker). stage_in cs j) (sym here) ∙ c.greatest_in-greatest.ensures.above j (omega arith);
      least = λ j is unseen.
          let own : greatest ≡ j = omega arith in
          sym own ∙ c.greatest_in-greatest.ensures.least
          (ap (λ (n : ℕ). stage_in c.as_slice.result.now n) own ∙ (ap (λ (cs : List Taker). stage_in cs j) here ∙ unseen));
    }
