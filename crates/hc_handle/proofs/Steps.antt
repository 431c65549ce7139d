-- The machine value of a `SessionPointer`, and what it owns. Assumes `Logic`.
use Rattle.std.{proofs.Common.{◌≡◌, ℕ, List, [], ◌∷◌, ◌++◌, refl, subst}, specs.{Prelude.{Option, Some, None, Bool, true, false}, Box.Ownership.{box_owns}}}
use lib.Dec.{T}
use seplogic.Ra.Ura.{Ura}
use mir.Syntax.{impl, tnil, tcons, dnil}
use mir.Raw.{raw as bare}
use mir.Val.{Val, vptr, vstruct, vcons, vnil, of_list, has_ty, WT}
use base.Logic.{never, fst∗}
use types.Logic.{Logic, sem}
use types.Kit.{Item, Goal, Seq, Step, step, ‵, ◌$◌, drop, fsplit, fjoin, fpick, fpack, rewrite, feq_i, feq_l}
use denote.RattleType.{RattleType, Valss}
use denote.Builtin.{RawPtr}
use denote.Memory.{lone}
use denote.RawPtr.{Ptr, block_ptr, null_ptr, ptr_val, in_a_block}
use denote.Steps.{nothing}
use denote.Exit.{no}
use denote.Param.{layout, arg}
use denote.Param.Laws.{arg_laws}
use denote.Struct.Struct.{within}
use denote.Struct.Owning.{shape}
use Rattle.libc.specs.Heap.{chunk}
use Rattle.std_alloc.proofs.BoxSteps.Form.{Bx}
use Rattle.std.specs.contracts.boxed.Box as boxed
use Rattle.std.specs.contracts.alloc.Global as global
use Rattle.std.proofs.alloc.Global.TheLaws as global_laws
use Rattle.std.specs.contracts.impls.GlobalAllocator.TheImpl as heap
use Rattle.hc_handle.specs.Pointers.{pointer_owns, has_session}
use Rattle.hc_handle.specs.contracts.session.Session as session
use Rattle.hc_handle.proofs.session.Session.TheLaws as session_laws
use Rattle.hc_handle.specs.contracts.pointer.SessionPointer as pointer

abbrev pub S : RattleType
S = pointer.the_row

abbrev pub Boxed : RattleType
Boxed = boxed.the_row session.the_row global.the_row heap.ghosts

-- a session and the allocator as a generic function gets them: under their bare layouts
abbrev pub R : RattleType
R = arg (bare (layout session.the_row)) no session.the_row

abbrev pub Z : RattleType
Z = arg (bare (layout global.the_row)) no global.the_row

abbrev is-false : Bool → Type 0
is-false true = ⊥
is-false false = Unit {0}

pub some_of : (m : Option R.Denot) → has_session m ≡ true → (x : R.Denot) × (m ≡ Some x)
some_of (Some x) has = (x, refl)
some_of None has = absurd (subst is-false has tt)

-- a box of a session
abbrev pub E : Bx
E = record {
  row = R;
  laws = arg_laws (bare (layout session.the_row)) no session.the_row session_laws.the_row_laws refl;
  al = record {
    row = Z;
    laws = arg_laws (bare (layout global.the_row)) no global.the_row global_laws.the_row_laws refl;
    g = heap.ghosts;
    d = heap.dict;
    drops = impl ("hc_handle::Destruct++none::drop" ∷ []) (tcons (layout Z) tnil) dnil;
  };
}

abbrev pub null : Val
null = ptr_val null_ptr

abbrev pub word : ℕ → ℕ → Val
word b o = vstruct (vcons (vptr b o) vnil)

pub word_good : (b o : ℕ) → T (has_ty (layout S) (word b o)) × WT (word b o)
word_good b o = (tt, (tt, tt))

module _ {M : Type 1} {𝓤 : Ura M} {𝓛 : Logic 𝓤} {K : Type 0} {Γ : List (Item 𝓤)} {G : Goal 𝓤 𝓛.H} where
  pub pointer_out : K → (d : S.Denot) (vs : List Val) (x : R.Denot) → d.session ≡ Some x
      → ((b o : ℕ) → d.at ≡ block_ptr b o → vs ≡ word b o ∷ [] → Seq K 𝓛 (‵ (box_owns chunk R (block_ptr b o) x) ∷ Γ) G)
      → Seq K 𝓛 (‵ (S.own_val d vs) ∷ Γ) G
  pointer_out t d vs x is k =
      fsplit t $ fpick t (λ vss. fsplit t $ feq_l t (λ ev. fsplit t $ feq_l t (λ ep. drop t $
      rewrite t 0 (λ (m : Option R.Denot). ‵ (pointer_owns R d.at m)) is refl $
      in_a_block t d.at (λ p. box_owns chunk R p x) (fst∗ 𝓤 (never 𝓤) (sem 𝓛 (chunk (bare (lone R.mir)) null_ptr))) (λ b o e. k b o e
      (subst (λ (p : Ptr). vs ≡ vstruct (of_list (ptr_val p ∷ [])) ∷ []) e
      (subst (λ (ps : List Val). vs ≡ vstruct (of_list (ps ++ [])) ∷ []) ep ev))))))

  pub pointer_in : K → (b o : ℕ) (x : R.Denot)
      → Step K 𝓛 (‵ (S.own_val (record { at = block_ptr b o; session = Some x }) (word b o ∷ [])) ∷ Γ) G (‵ (box_owns chunk R (block_ptr b o) x) ∷ Γ) G
  pointer_in t b o x = step (λ s.
      nothing t $ feq_i t (List Val) (vptr b o ∷ []) (vptr b o ∷ []) refl $ fjoin t $ feq_i t (List Val) (word b o ∷ []) (word b o ∷ []) refl $ fjoin t $
      fpack t (Valss (RawPtr ∷ [])) (within (shape pointer.the_type) (block_ptr b o, tt) (word b o ∷ [])) (vptr b o ∷ [], tt) $ fjoin t $ s)

  pub pointer_none : K → Step K 𝓛 (‵ (S.own_val (record { at = null_ptr; session = None }) (vstruct (vcons null vnil) ∷ [])) ∷ Γ) G Γ G
  pointer_none t = step (λ s.
      nothing t $ nothing t $ feq_i t (List Val) (null ∷ []) (null ∷ []) refl $ fjoin
      t $ feq_i t (List Val) (vstruct (vcons null vnil) ∷ []) (vstruct (vcons null vnil) ∷ []) refl $ fjoin t $
      fpack t (Valss (RawPtr ∷ [])) (within (shape pointer.the_type) (null_ptr, tt) (vstruct (vcons null vnil) ∷ [])) (null ∷ [], tt) $ fjoin t $ s)
