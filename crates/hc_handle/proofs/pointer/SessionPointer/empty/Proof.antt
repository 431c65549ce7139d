-- `empty` owns nothing.
use Rattle.std.{proofs.{Common.{◌≡◌, [], ◌∷◌, refl, lit<}, raw_atomic.Walks.{proved_at, leaves}}, specs.Prelude.{None}}
use mir.Val.{Val, vstruct, vcons, vnil}
use base.Logic.{SProp, emp}
use base.Fml.{ftrue}
use contract.Monad.{fact, fact_i}
use contract.Running.{tables}
use types.Kit.{‵, raw, ◌⊛◌, ◌$◌, ◌∵◌, !, qed, by, keep, drop, use0}
use types.Run.{lit, no_more, and_then, returns, enter}
use types.ByLocal.{alloc_all, pass_all, free_all, look_at, sets}
use types.Part.{agg}
use denote.RattleType.{owns}
use denote.RawPtr.{null_ptr}
use denote.Signature.{types_at}
use denote.Steps.{nothing}
use denote.Triple.Walked.{Stays, walk_of}
use Rattle.hc_handle.proofs.{Steps.{null, pointer_none}, pointer.SessionPointer.empty.Statement.{statement}}
use Rattle.hc_handle.specs.contracts.pointer.SessionPointer.empty.{ended, clauses, Key.{name as #self}}
use Rattle.hc_handle.proofs.pointer.SessionPointer.empty.Code as code

abbrev stayed : Stays ended.signature.params ended.kept
stayed = tt

pub empty_spec : {M : Type 1} → statement M
empty_spec {M} 𝓤 𝓛 𝓜 𝓡 w =
    let H = 𝓛.H in let 𝓣 = tables 𝓤 H 𝓜 𝓡 𝓡.env in let c = clauses 𝓛 𝓜.mem 𝓡.returns in let fn = code.function in
    proved_at 𝓛 ended stayed c 𝓜 𝓡 tt #self fn (code.unfolded 𝓤 H 𝓜 𝓡 w) (λ z are.
    let Post : Val → SProp 𝓤 = (walk_of 𝓛 ended stayed c).post z in
    qed 𝓛 ((‵ ftrue ⊛ ‵ (owns (types_at ended.signature.params z.0.0) z.0.3 z.0.4)) ∷ raw ((c z.0.0 z.0.3).requires z.1) ∷ []) ∵ drop ! $ drop ! $
    enter ! 𝓣.C 𝓣.Λ fn [] Post $ alloc_all ! (λ l. pass_all ! refl tt $
    sets ! (agg ! (and_then ! (lit ! tt) (no_more !))) refl (tt, (record { fits = lit< tt }, tt)) $ pointer_none ! $
    use0 𝓛 (raw (fact 𝓤 (None ≡ None))) (fact_i 𝓤 (None ≡ None) (emp 𝓤) refl) $ nothing ! $ nothing ! $ returns ! (look_at ! 0 refl) $ free_all ! refl $
    keep ! (0 ∷ 1 ∷ 3 ∷ 2 ∷ []) $ by ! (leaves 𝓛 ended stayed c z (vstruct (vcons null vnil)) (record { at = null_ptr; session = None }) tt tt)))
