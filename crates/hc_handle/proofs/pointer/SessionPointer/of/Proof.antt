-- `of` takes the box apart.
use Rattle.std.{proofs.{Common.{◌≡◌, List, [], ◌∷◌, ◌++◌, refl, sym, ap, ◌∙◌, subst}, raw_atomic.Walks.{proved_at, leaves}}, specs.Prelude.{Some}}
use Rattle.libc.specs.Heap.{chunk}
use mir.Val.{Val}
use mir.Raw.{raw as bare}
use base.Logic.{SProp, ent, emp, never, id⊢, fst∗}
use base.Fml.{ftrue, flft}
use base.Fraction.{full_share}
use prog.Wp.{WpFn}
use contract.Monad.{fact, fact_i}
use contract.BorrowLft.{◌⊑◌}
use contract.Running.{tables}
use types.Logic.{sem}
use types.Kit.{‵, raw, ◌⊛◌, some, later, ◌$◌, ◌∵◌, !, qed, by, move, keep, drop, split, join, fsplit, fjoin, pick, suffices, use0, use1, await, feq_l}
use types.Run.{of_opd, no_more, and_then, returns, enter}
use types.ByLocal.{alloc_all, pass_all, free_all, look_at, get, sets, lands_as}
use types.Part.{agg}
use types.Tokens.{lft_new}
use denote.Exit.{yes}
use denote.RattleType.{owns}
use denote.Signature.{types_at, plain}
use denote.Builtin.{RawPtr}
use denote.Memory.{lone}
use denote.RawPtr.{Ptr, block_ptr, null_ptr, ptr_val, in_a_block}
use denote.Steps.{nothing, only}
use denote.Param.NoDrop.{glues}
use denote.Triple.Clauses.{Lasts, lasts}
use denote.Triple.Spec.{triple_of}
use denote.Triple.Call.{calls_at}
use denote.Triple.Walked.{Stays, stay_dropped, Goes-dropped, walk_of}
use Rattle.core.proofs.atomic.Steps.{fm}
use Rattle.std_alloc.specs.Box.Ownership.{box_owns}
use Rattle.std_alloc.proofs.BoxSteps.Form as box
use Rattle.std_alloc.proofs.{BoxSteps.Steps.{box_out, box_in}, boxed.Box.into_raw.Met.{met}}
use Rattle.std.proofs.alloc.Global.TheLaws as global_laws
use Rattle.std.proofs.impls.GlobalAllocator.TheImpl.Met as heap_met
use Rattle.std_alloc.specs.contracts.boxed.Box.into_raw as callee
use Rattle.hc_handle.proofs.{Steps.{R, Z, E, word, word_good, pointer_in, Boxed}, Dropped.{drops, dropped}, pointer.SessionPointer.of.Statement.{statement}}
use Rattle.hc_handle.proofs.session.Session.TheLaws as session_laws
use Rattle.hc_handle.specs.contracts.pointer.SessionPointer.of.{ended, clauses, Key.{name as #self}}
use Rattle.hc_handle.proofs.pointer.SessionPointer.of.Code as code

abbrev stayed : Stays ended.signature.params ended.kept
stayed = (stay_dropped (plain (λ _. Boxed)) yes, tt)

pub of_spec : {M : Type 1} → statement M
unfolding Rattle.hc_handle.proofs.Destruct++none.drop.Code.code
of_spec {M} 𝓤 𝓛 𝓜 𝓡 w =
    let H = 𝓛.H in let 𝓣 = tables 𝓤 H 𝓜 𝓡 𝓡.env in let c = clauses 𝓛 𝓜.mem 𝓡.returns in let fn = code.function in let al = E.al in let B = box.B E in
    proved_at 𝓛 ended stayed c 𝓜 𝓡 (Goes-dropped 𝓛 0 (plain (λ _. Boxed)) yes (λ κs x f. refl), tt) #self fn (code.unfolded 𝓤 H 𝓜 𝓡 w) (λ z are.
    let v = z.0.3.0 in let x = v.value in let Post : Val → SProp 𝓤 = (walk_of 𝓛 ended stayed c).post z in let Run : List Val → SProp 𝓤 =
    λ vs. WpFn 𝓤 H 𝓣.C 𝓣.Λ fn vs Post in
    qed 𝓛 ((‵ ftrue ⊛ ‵ (owns (types_at ended.signature.params z.0.0) z.0.3 z.0.4)) ∷ raw ((c z.0.0 z.0.3).requires z.1) ∷ []) ∵ move ! (1 ∷ []) $ drop !
    $ split ! $ drop ! $ fsplit ! $
    box_out E ! v z.0.4.0 (λ b o h e ws fits. box_in E ! v b o x e refl $ let wd : Val = box.word E h b o in let typed = box.box_typed E h b o fits in
    let k = triple_of 𝓛 (callee.signature R Z al.g al.d al.drops drops) (callee.spec R Z al.g al.d al.drops drops 𝓛 𝓜.mem 𝓡.returns) in
    suffices ! (Run (wd ∷ [])) (subst (λ (vs : List Val). ent 𝓤 (Run (wd ∷ [])) (Run vs)) (sym (λ i. ws i ++ [])) (id⊢ 𝓤 (Run (wd ∷ [])))) $
    enter ! 𝓣.C 𝓣.Λ fn (wd ∷ []) Post $ alloc_all ! (λ l. pass_all ! refl (typed, tt) $ sets ! (of_opd ! (get ! refl)) refl typed $
    -- [the box; nothing; the locals]
    lft_new ! tt (λ α. lft_new ! tt (λ β. let κ = α ∷ [] in let ρ = β ∷ [] in let toks = ‵ (flft κ full_share) ⊛ ‵ (flft ρ full_share) ⊛ ‵ ftrue in
    let y : k.Ghost = (((κ, (ρ, tt)), (full_share, (full_share, tt)), tt, (v, tt), (wd ∷ [], tt)), tt) in
    nothing ! $ use0 𝓛 (raw (fact 𝓤 (ρ ⊑ Z.lives))) (fact_i 𝓤 (ρ ⊑ Z.lives) (emp 𝓤) (global_laws.the_within ρ)) $ join ! $
    use0 𝓛 (raw (fact 𝓤 (κ ⊑ R.lives))) (fact_i 𝓤 (κ ⊑ R.lives) (emp 𝓤) (session_laws.the_within κ)) $ join ! $
    move ! (3 ∷ 4 ∷ []) $ fjoin ! $ nothing ! $ move ! (3 ∷ 0 ∷ []) $ join ! $ move ! (3 ∷ 0 ∷ []) $ join ! $ join ! $ join
    ! $ use1 𝓛 (raw (k.pre y)) (id⊢ 𝓤 _) $
    calls_at ! (fm 𝓛 𝓜 𝓡) k (met 𝓤 𝓛 𝓜 𝓡 (code.calls-std_alloc::boxed::Box::into_raw 𝓡.env w) R Z E.laws al.laws al.g al.d al.drops drops
    (heap_met.passed 𝓡.env (code.calls-std_heap::GlobalAllocator::allocate 𝓡.env w) (code.calls-std_heap::GlobalAllocator::deallocate 𝓡.env w)
    (code.calls-std_heap::GlobalAllocator::grow 𝓡.env w) (code.calls-std_heap::GlobalAllocator::shrink 𝓡.env w) M 𝓤 𝓛 𝓜 𝓡)
    (glues "hc_handle::Destruct++none::drop" 𝓡.env (code.calls-hc_handle::Destruct++none::drop 𝓡.env w) Z al.laws M 𝓤 𝓛 𝓜 𝓡)
    (dropped 𝓤 𝓛 𝓜 𝓡 (code.calls-hc_handle::hc_handle++session++Session+Destruct::drop 𝓡.env w))) y (and_then ! (get ! refl) (no_more !)) (λ u.
    use1 𝓛 (later (some (λ (r : Ptr). (toks ⊛ ‵ (RawPtr.own_val r (u ∷ []))) ⊛ some
    (λ (ls : Lasts (callee.ended R Z al.g al.d al.drops drops) (κ, (ρ, tt)) (v, tt)). ‵
    (lasts (callee.ended R Z al.g al.d al.drops drops) (κ, (ρ, tt)) (v, tt) ls) ⊛ ‵ (box_owns chunk R r x))))) (id⊢ 𝓤 (k.post y u)) $
    await ! tt $ pick ! (λ r. split ! $ move ! (1 ∷ []) $ pick ! (λ _. split ! $ drop ! $
    in_a_block ! r (λ p. box_owns chunk R p x) (fst∗ 𝓤 (never 𝓤) (sem 𝓛 (chunk (bare (lone R.mir)) null_ptr))) (λ b' o' e'.
    move ! (1 ∷ []) $ split ! $ drop ! $ feq_l ! (λ eu.
    lands_as ! (ap only (eu ∙ ap (λ (p : Ptr). ptr_val p ∷ []) e')) refl (tt, tt) $ sets ! (of_opd ! (get ! refl)) refl (tt, tt) $
    sets ! (agg ! (and_then ! (get ! refl) (no_more !))) refl (word_good b' o') $ pointer_in ! b' o' x $
    use0 𝓛 (raw (fact 𝓤 (Some x ≡ Some x))) (fact_i 𝓤 (Some x ≡ Some x) (emp 𝓤) refl) $ nothing ! $ nothing ! $ fjoin
    ! $ nothing ! $ returns ! (look_at ! 0 refl) $ free_all ! refl $
    keep ! (0 ∷ 1 ∷ 3 ∷ 2 ∷ []) $ by ! (leaves 𝓛 ended stayed c z (word b' o') (record { at = block_ptr b' o'; session = Some x }) (_, tt) (_, tt))))))))))))
