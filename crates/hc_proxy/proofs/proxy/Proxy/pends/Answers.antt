use Rattle.std.{proofs.{Common.{◌≡◌, List, [], ◌∷◌, refl, ap, ◌∙◌, drop}, lemmas.List.{take_rest}}, specs.List.{list_any}}
use Rattle.hc_effects.proofs.Vocabulary.{act_list, Act, act}
use Rattle.hc_proxy.specs.Waiting.{pends, pends_alone}
use Rattle.hc_proxy.proofs.proxy.Proxy.pends.Goals as goal

any_is : (acts : List Act) → list_any pends_alone acts ≡ pends acts
any_is [] = refl
any_is (act.Pending c wait ∷ acts) = refl
any_is (act.Denied refusal ∷ acts) = any_is acts
any_is (act.Opened x c need request ∷ acts) = any_is acts
any_is (act.Ask x ∷ acts) = any_is acts
any_is (act.Close x ∷ acts) = any_is acts
any_is (act.Shown c r why status fields lo hi ∷ acts) = any_is acts
any_is (act.Given c x at bytes ∷ acts) = any_is acts
any_is (act.Ended c ∷ acts) = any_is acts
any_is (act.Failed c cause ∷ acts) = any_is acts
any_is (act.Lost r kind ∷ acts) = any_is acts
any_is (act.Evicted r ∷ acts) = any_is acts

pub returns : goal.returns
returns g c =
    c.any_pends.ensures
    ∙ (ap (list_any pends_alone) (take_rest c.list.result.now c.args.first)
    ∙ (ap (λ (xs : List Act). list_any pends_alone (drop c.args.first xs)) c.list.ensures ∙ any_is (drop c.args.first (act_list c.args.self.now.acts))))
