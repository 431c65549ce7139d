-- `into_box` makes the box again.
use Rattle.std.{proofs.{Common.{◌≡◌, List, [], ◌∷◌, ◌++◌, refl, sym, ap, ◌∙◌, subst}, raw_atomic.Walks.{proved_at, leaves}}, specs.Prelude.{Some, true}}
use lib.Dec.{T}
use mir.Val.{Val, vptr, has_ty, WT}
use base.Logic.{SProp, ent, emp, id⊢}
use base.Fml.{ftrue, flft}
use base.Fraction.{full_share}
use prog.Wp.{WpFn}
use contract.Monad.{fact, fact_i}
use contract.BorrowLft.{◌⊑◌}
use contract.Running.{tables}
use types.Kit.{
  ‵,
  raw,
  ◌⊛◌,
  some,
  later,
  at_ret,
  ◌$◌,
  ◌∵◌,
  !,
  qed,
  by,
  move,
  keep,
  drop,
  split,
  split3,
  join,
  fsplit,
  fjoin,
  pick,
  suffices,
  use0,
  use1,
  await,
  rewrite,
  feq_i,
}
use types.Run.{stop, fld, of_opd, no_more, and_then, first, blocks, exec, returns, enter}
use types.ByLocal.{alloc_all, pass_all, free_all, look_at, get, get_in, sets, lands_last, env}
use types.Part.{sub, whole}
use types.Tokens.{lft_new}
use denote.Exit.{yes}
use denote.RattleType.{owns}
use denote.Signature.{types_at, plain}
use denote.RawPtr.{block_ptr}
use denote.Steps.{nothing, only, heard}
use denote.Param.{layout}
use denote.Param.NoDrop.{glues}
use denote.Triple.Clauses.{Lasts, lasts}
use denote.Triple.Spec.{triple_of}
use denote.Triple.Call.{calls_at_last}
use denote.Triple.Walked.{Stays, stay_dropped, Goes-dropped, walk_of}
use Rattle.core.proofs.{alloc.Calls.{handle_tells}, atomic.Steps.{fm}}
use Rattle.std_alloc.proofs.BoxSteps.Form as box
use Rattle.std_alloc.proofs.{BoxSteps.Steps.{box_out, box_in}, boxed.Box.from_raw.Met.{met}}
use Rattle.std.proofs.alloc.Global.TheLaws as global_laws
use Rattle.std.specs.contracts.alloc.Global as global
use Rattle.std.proofs.impls.GlobalAllocator.TheImpl.Met as heap_met
use Rattle.std_alloc.specs.contracts.boxed.Box.from_raw as callee
use Rattle.hc_handle.proofs.{Steps.{R, S, Z, E, word, word_good, pointer_out, some_of}, pointer.SessionPointer.into_box.Statement.{statement}}
use Rattle.hc_handle.specs.{Pointers.{has_session}, contracts.pointer.SessionPointer.into_box.{ended, clauses, Key.{name as #self}}}
use Rattle.hc_handle.proofs.session.Session.TheLaws as session_laws
use Rattle.hc_handle.proofs.pointer.SessionPointer.into_box.Code as code

abbrev stayed : Stays ended.signature.params ended.kept
stayed = (stay_dropped (plain (λ _. S)) yes, (stay_dropped (plain (λ _. global.the_row)) yes, tt))

abbrev box_good : Val → Type 0
box_good v = T (has_ty (layout (box.B E)) v) × WT v

pub into_box_spec : {M : Type 1} → statement M
unfolding Rattle.hc_handle.proofs.Destruct++none.drop.Code.code
into_box_spec {M} 𝓤 𝓛 𝓜 𝓡 wired =
    let H = 𝓛.H in let 𝓣 = tables 𝓤 H 𝓜 𝓡 𝓡.env in let c = clauses 𝓛 𝓜.mem 𝓡.returns in let fn = code.function in
    let al = E.al in let w = wired in
    proved_at 𝓛 ended stayed c 𝓜 𝓡
    (Goes-dropped 𝓛 0 (plain (λ _. S)) yes (λ κs x f. refl), (Goes-dropped 𝓛 0 (plain (λ _. global.the_row)) yes (λ κs x f. refl), tt)) #self fn
    (code.unfolded 𝓤 H 𝓜 𝓡 wired) (λ z are.
    let d = z.0.3.0 in let a = z.0.3.1.0 in let Post : Val → SProp 𝓤 = (walk_of 𝓛 ended stayed c).post z in let Run : List Val → SProp 𝓤 =
    λ ws. WpFn 𝓤 H 𝓣.C 𝓣.Λ fn ws Post in
    qed 𝓛 ((‵ ftrue ⊛ ‵ (owns (types_at ended.signature.params z.0.0) z.0.3 z.0.4)) ∷ raw (fact 𝓤 (has_session d.session ≡ true)) ∷ []) ∵ move ! (1 ∷ [])
    $ heard ! _ (λ has. let x = (some_of d.session has).0 in let is : d.session ≡ Some x = (some_of d.session has).1 in split ! $ drop ! $ fsplit ! $
    pointer_out ! d z.0.4.0 x is (λ b o e ws. move ! (1 ∷ []) $ fsplit ! $ handle_tells al ! a z.0.4.1.0 (λ h us fits.
    let k = triple_of 𝓛 (callee.signature R Z al.g al.d al.drops) (callee.spec R Z al.g al.d al.drops 𝓛 𝓜.mem 𝓡.returns) in let B = box.B E in
    suffices ! (Run (word b o ∷ h ∷ []))
    (subst (λ (vs : List Val). ent 𝓤 (Run (word b o ∷ h ∷ [])) (Run vs)) (sym (λ i. ws i ++ (us i ++ []))) (id⊢ 𝓤 (Run (word b o ∷ h ∷ [])))) $
    enter ! 𝓣.C 𝓣.Λ fn (word b o ∷ h ∷ []) Post $ alloc_all ! (λ l. pass_all ! refl (word_good b o, (fits, tt)) $ let Ev = env fn.locals l in
    sets ! (of_opd ! (get_in ! (fld ! refl (stop !)) (sub ! 0 refl (whole !)))) refl (tt, tt) $
    -- [the handle; nothing; the box's memory; the locals]
    lft_new ! tt (λ α. lft_new ! tt (λ β. let κ = α ∷ [] in let ρ = β ∷ [] in let toks = ‵ (flft κ full_share) ⊛ ‵ (flft ρ full_share) ⊛ ‵ ftrue in
    let y : k.Ghost = (((κ, (ρ, tt)), (full_share, (full_share, tt)), tt, (a, (block_ptr b o, tt)), (h ∷ [], (vptr b o ∷ [], tt))), x) in
    first ! $ blocks ! $ sets ! (of_opd ! (get ! refl)) refl (tt, tt) $
    move ! (4 ∷ []) $ use0 𝓛 (raw (fact 𝓤 (ρ ⊑ Z.lives))) (fact_i 𝓤 (ρ ⊑ Z.lives) (emp 𝓤) (global_laws.the_within ρ)) $ join ! $
    use0 𝓛 (raw (fact 𝓤 (κ ⊑ R.lives))) (fact_i 𝓤 (κ ⊑ R.lives) (emp 𝓤) (session_laws.the_within κ)) $ join ! $
    move ! (4 ∷ []) $ feq_i ! (List Val) (vptr b o ∷ []) (vptr b o ∷ []) refl $ fjoin ! $ move ! (4 ∷ 0 ∷ []) $ fjoin ! $
    nothing ! $ move ! (3 ∷ 0 ∷ []) $ join ! $ move ! (3 ∷ 0 ∷ []) $ join ! $ join ! $ join ! $ use1 𝓛 (raw (k.pre y)) (id⊢ 𝓤 _) $
    calls_at_last ! (fm 𝓛 𝓜 𝓡) k (met 𝓤 𝓛 𝓜 𝓡 (code.calls-std_alloc::boxed::Box::from_raw 𝓡.env w) R Z E.laws al.laws al.g al.d al.drops
    (heap_met.passed 𝓡.env (code.calls-std_heap::GlobalAllocator::allocate 𝓡.env w) (code.calls-std_heap::GlobalAllocator::deallocate 𝓡.env w)
    (code.calls-std_heap::GlobalAllocator::grow 𝓡.env w) (code.calls-std_heap::GlobalAllocator::shrink 𝓡.env w) M 𝓤 𝓛 𝓜 𝓡)
    (glues "hc_handle::Destruct++none::drop" 𝓡.env (code.calls-hc_handle::Destruct++none::drop 𝓡.env w) Z al.laws M 𝓤 𝓛 𝓜 𝓡)) y
    (and_then ! (get ! refl) (and_then ! (get ! refl) (no_more !))) (λ u.
    use1 𝓛 (later (some (λ (r : B.Denot). (toks ⊛ ‵ (B.own_val r (u ∷ []))) ⊛ some
    (λ (ls : Lasts (callee.ended R Z al.g al.d al.drops) (κ, (ρ, tt)) y.0.3). ‵ (lasts (callee.ended R Z al.g al.d al.drops) (κ, (ρ, tt)) y.0.3 ls) ⊛
    (raw (fact 𝓤 (r.value ≡ x)) ⊛ raw (fact 𝓤 (r.alloc ≡ a))))))) (id⊢ 𝓤 (k.post y u)) $
    await ! tt $ pick ! (λ r. split ! $ move ! (1 ∷ []) $ pick ! (λ _. split3 ! $ drop ! $ heard ! (r.value ≡ x) (λ ev. drop ! $ split ! $ drop ! $
    box_out E ! r (u ∷ []) (λ b' o' h' e' us' fits'. box_in E ! r b' o' r.value e' refl $ rewrite ! 0 (λ (xs : List Val). ‵ (B.own_val r xs)) (sym us') refl $
    let good : box_good u = subst box_good (sym (ap only us')) (box.box_typed E h' b' o' fits') in
    lands_last ! refl good $ exec ! 𝓣.C 𝓣.Λ Ev code.Mir.t-3 (at_ret Ev Post) $ sets ! (of_opd ! (get ! refl)) refl good $
    use0 𝓛 (raw (fact 𝓤 (d.session ≡ Some r.value))) (fact_i 𝓤 (d.session ≡ Some r.value) (emp 𝓤) (is ∙ ap Some (sym ev))) $
    nothing ! $ nothing ! $ fjoin ! $ nothing ! $ fjoin ! $ nothing ! $ returns ! (look_at ! 0 refl) $ free_all ! refl $
    keep ! (0 ∷ 1 ∷ 3 ∷ 2 ∷ []) $ by ! (leaves 𝓛 ended stayed c z u r (_, (_, tt)) (_, (_, tt)))))))))))))))
