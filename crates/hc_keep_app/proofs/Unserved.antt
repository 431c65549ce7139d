-- Why a store isn't served.
use Rattle.std.{proofs.Common.{◌≡◌, ◌≢◌, ℕ, ◌<◌, Bool, true, false, Option, Some, None, Result, Err, refl, ap, sym, subst, arith, inl, inr}, specs.{Prelude.{Ok, IfOk, IfErr, IfSome, OnOk, OnErr}, Result.{IsErrAnd}}}
use Rattle.hc_rules.specs.declared.room.Limits.{Limits}
use Rattle.hc_contents.specs.{Fit.{unfit_of}, PlainContents.{plain_contents}, declared.unfit.Unfit.{Unfit}}
use Rattle.hc_model.specs.Entries.{Contents}
use Rattle.hc_core.specs.{Begins.{IsCause}, declared.begin.ContentsError.{ContentsError}}
use Rattle.hc_core.specs.declared.begin.ContentsError.TheVariants as refusal
use Rattle.hc_folder.specs.Files.{Files}
use Rattle.hc_io.specs.Faults as sink
use Rattle.hc_keeping.specs.{Keeps.{HasKeepCause, Keeps}, declared.keeping.{KeepError.{KeepError}, Kept.{Kept}}}
use Rattle.hc_proxy.specs.Endings.{IsFresh}
use Rattle.hc_sched.specs.declared.schedule.Ended.{Ended}
use Rattle.hc_sched.specs.declared.schedule.Ended.TheVariants as ended
use Rattle.hc_wire.specs.{Logs.{Log, Reports, with_binding}, Wires.{HasRisen, HasWireCause}, declared.event.{Address.{Address}, WireError.{WireError}}}
use Rattle.hc_wire.specs.declared.event.WireError.TheVariants as wire
use Rattle.hc_keep_app.specs.{Serving.{HasEndedWire, HasFolderEnd, HasRefusedWire, IsUnready, IsUnserved, of_wire, unserved_by}, declared.serving.Unserved.{Unserved}}
use Rattle.hc_keep_app.specs.Serving as serving
use Rattle.hc_keep_app.specs.declared.serving.Unserved.TheVariants as why

pub none_ok : {T E : Type 0} (Q : E → Type 0) (P : Type 0) (r : Result T E) → IsErrAnd r Q → OnOk r P
none_ok Q P (Ok x) is = absurd is
none_ok Q P (Err e) is = tt

pub no_value : {T E : Type 0} (Q : E → Type 0) (P : T → Type 0) (r : Result T E) → IsErrAnd r Q → IfOk r P
no_value Q P (Ok x) is = absurd is
no_value Q P (Err e) is = tt

pub on_err : {T E : Type 0} (P : Type 0) (r : Result T E) → P → OnErr r P
on_err P (Ok x) is = tt
on_err P (Err e) is = is

-- what holds of an error holds of the result that has it
pub by_error : {T E : Type 0} (e : E) (P : E → Type 0) (r : Result T E) → IsErrAnd r (λ (x : E). x ≡ e) → P e → IfErr r P
by_error e P (Ok x) is holds = tt
by_error e P (Err x) is holds = subst P (sym is) holds

-- NO CACHE BEGINS

some_not_none : (o : Option Unfit) (why : Unfit) → o ≡ Some why → o ≢ None
some_not_none None why is none = absurd (let never : None ≡ Some why = is in cc)
some_not_none (Some x) why is none = absurd (let never : Some x ≡ None = none in cc)

pub unready_by : (limits : Limits) (contents : Contents) (next a b : ℕ) (e : ContentsError) → IsCause limits contents a b e →
    IsUnready limits contents next (unserved_by e)
unready_by limits contents next a b (refusal.BadContent i) cause = inr (inr (some_not_none _ _ cause))
unready_by limits contents next a b refusal.Full cause = inr (inr (some_not_none _ _ cause))
unready_by limits contents next a b refusal.Fault cause = tt
unready_by limits contents next a b refusal.NoMemory cause = tt

-- NOTHING IS SERVED

pub unready_unserved : (limits : Limits) (files : Option Files) (kept : Kept) (e : Unserved) → IfSome files (λ (f : Files). Keeps limits f (Ok kept)) →
    IsUnready limits (plain_contents kept.contents) kept.next e → IsUnserved limits files e
unready_unserved limits files kept why.UsedUp keeps q = serving.used_up kept keeps q
unready_unserved limits files kept why.NoMemory keeps q = serving.lacking
unready_unserved limits files kept (why.Unrecovered e) keeps q = absurd q
unready_unserved limits files kept why.Unbound keeps q = absurd q

pub unready_folder : (limits : Limits) (contents : Contents) (next a b : ℕ) (e : Unserved) → IsUnready limits contents next e → b ≡ a → HasFolderEnd a b e
unready_folder limits contents next a b why.UsedUp q same = same
unready_folder limits contents next a b why.NoMemory q same = same
unready_folder limits contents next a b (why.Unrecovered e) q same = absurd q
unready_folder limits contents next a b why.Unbound q same = absurd q

pub unready_wire : (limits : Limits) (contents : Contents) (next a b : ℕ) (e : Unserved) → IsUnready limits contents next e → b ≡ a → HasRefusedWire a b e
unready_wire limits contents next a b why.UsedUp q same = same
unready_wire limits contents next a b why.NoMemory q same = same
unready_wire limits contents next a b (why.Unrecovered e) q same = absurd q
unready_wire limits contents next a b why.Unbound q same = absurd q

pub unbound_unserved : (limits : Limits) (files : Option Files) (kept : Kept) (e : WireError) → IfSome files (λ (f : Files). Keeps limits f (Ok kept)) →
    IsUnserved limits files (of_wire e)
unbound_unserved limits files kept wire.WireFailed keeps = serving.unbound kept keeps
unbound_unserved limits files kept wire.NoMemory keeps = serving.lacking

pub unbound_folder : (a b : ℕ) (e : WireError) → b ≡ a → HasFolderEnd a b (of_wire e)
unbound_folder a b wire.WireFailed same = same
unbound_folder a b wire.NoMemory same = same

pub unbound_wire : (T : Type 0) (a b : ℕ) (e : WireError) → HasWireCause {T = T} a b (Err e) → HasRefusedWire a b (of_wire e)
unbound_wire T a b wire.WireFailed cause = cause.failed refl
unbound_wire T a b wire.NoMemory cause = cause.no_fault refl

-- IT IS SERVED

pub fresh_bound : (listen origin : Option Address) (a b : Option Log) → IfSome a IsFresh → Reports a b (with_binding listen origin) → IfSome b IsFresh
fresh_bound listen origin None b fresh bound = subst (λ (o : Option Log). IfSome o IsFresh) (sym bound) tt
fresh_bound listen origin (Some log) b fresh bound =
    subst (λ (o : Option Log). IfSome o IsFresh) (sym bound) (record { calls = fresh.calls; dialled = fresh.dialled; takers = fresh.takers })

is_wire : Ended → Bool
is_wire ended.WireFailed = true
is_wire _ = false

pub ended_wire : (a b : ℕ) (e : Ended) → (e ≡ ended.WireFailed → HasRisen a b) → (e ≢ ended.WireFailed → b ≡ a) → HasEndedWire a b e
unfolding is_wire
ended_wire a b ended.Done risen calm = calm (λ is. absurd (let never : false ≡ true = ap is_wire is in cc))
ended_wire a b (ended.Refused r) risen calm = calm (λ is. absurd (let never : false ≡ true = ap is_wire is in cc))
ended_wire a b ended.SourceFailed risen calm = calm (λ is. absurd (let never : false ≡ true = ap is_wire is in cc))
ended_wire a b ended.SinkFailed risen calm = calm (λ is. absurd (let never : false ≡ true = ap is_wire is in cc))
ended_wire a b ended.WireFailed risen calm = risen refl
ended_wire a b ended.NoMemory risen calm = calm (λ is. absurd (let never : false ≡ true = ap is_wire is in cc))

-- a count that stays at 0 hasn't risen
pub never_risen : sink.HasRisen 0 0 → ⊥
never_risen (inl less) = omega (arith, less)
never_risen (inr most) = omega (arith, most)
