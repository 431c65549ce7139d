-- A session's `drop` is its glue: what a call that asks for `T: Drop` is handed at `Session`. Assumes `Logic`.
use Rattle.std.proofs.Common.{[], ◌∷◌, refl}
use seplogic.Ra.Ura.{Ura}
use mir.Syntax.{Dict, Callee, impl, method, tnil, dnil}
use prog.Model.{Model}
use prog.Wired.{Wired}
use types.Logic.{Logic}
use contract.Running.{Running}
use denote.Param.{layouts}
use denote.Param.Glue.{Met}
use denote.Triple.Carry.{AllWithin}
use denote.Triple.Clauses.{Lasts, lasts, at_exit}
use denote.Triple.Walked.{Fit}
use borrow.Fn.Glue.{glue_ps, glue_by}
use borrow.Fn.Impl.{via_longer, method_Known}
use borrow.Fn.Kinds.{ended_of, stays, r_unit}
use borrow.Fn.Run.{Over}
use borrow.Fn.World.{World}
use Rattle.hc_handle.proofs.{Steps.{R, E}, hc_handle++session++Session+Destruct.drop.{Symbol.{code, name, as_method}, Met.{met}}}
use Rattle.hc_handle.proofs.hc_handle++session++Session+Destruct.drop.Kinds as K
use Rattle.hc_handle.proofs.hc_handle++session++Session+Destruct.drop.Reads as D

abbrev pub drops : Dict
drops = impl ("hc_handle::hc_handle++session++Session+Destruct::drop" ∷ []) tnil dnil

abbrev called : Callee
called = method drops 0 (layouts [] tt)

pub dropped : {M : Type 1} (𝓤 : Ura M) (𝓛 : Logic 𝓤) (𝓜 : Model 𝓤 𝓛.H) (𝓡 : Running 𝓤 𝓛.H 𝓜) → Wired 𝓡.env code → Met 𝓛 𝓜 𝓡 𝓡.env R drops
dropped {M} 𝓤 𝓛 𝓜 𝓡 w =
    let W : World = record { M = M; 𝓤 = 𝓤; 𝓛 = 𝓛; 𝓜 = 𝓜; 𝓡 = 𝓡 } in let En = ended_of 0 K.ps K.r in
    glue_by R E.laws W drops 𝓡.env (λ κs a. Lasts En tt a) (λ κs a. lasts En tt a)
    (λ κs a x ws. Fit En (stays K.ps) tt a ws × D.Learnt tt a x (at_exit En tt a ws))
    (λ κs a. AllWithin 1 (κs.0, tt) (R.lives, tt) × Unit {0}) 0 tt (λ κs a h. ((h, tt), tt))
    (via_longer 𝓛 (Over 𝓛 𝓜 𝓡 𝓡.env) 1 (glue_ps R E.laws) r_unit (λ κs a. Lasts En tt a) (λ κs a. lasts En tt a)
    (λ κs a x ws. Fit En (stays K.ps) tt a ws × D.Learnt tt a x (at_exit En tt a ws))
    (λ κs a. AllWithin 1 (κs.0, tt) (R.lives, tt) × Unit {0}) called 0 tt (λ κs. tt) (λ κs a. D.Asked tt a) (λ κs a p. (tt, tt))
    (λ κs bd within a vss qs. method_Known 0 K.ps K.r D.requires D.ensures D.Asked D.Learnt D.known W name called (as_method 𝓡.env w called refl)
    (met 𝓤 𝓛 𝓜 𝓡 w) ((tt, qs, tt, a, vss), tt)))
