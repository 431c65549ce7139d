use Rattle.std.proofs.Common.{◌≡◌, ◌+◌, nat_eq, true, Some, ap, ◌∙◌}
use Rattle.hc_text.proofs.Basics.{eqb-same}
use Rattle.hc_exch.specs.Known.{is_all}
use Rattle.hc_state.specs.Pieces.{ends}
use Rattle.hc_on_body.proofs.piece.last_kind.Goals as goal

pub returns : goal.returns
returns g c = λ x bytes v k same kept reported.
    let n = c.args.view.now.delivered + c.args.count in
    let over : is_all c.args.view.now.promised n ≡ true = ap (λ o. is_all o n) c.in-Some.is ∙ (ap (λ m. nat_eq m n) c.if-promised-view.false ∙ eqb-same n) in
    ends over (ap Some (c.kind_with.ensures x bytes v k same kept reported))
