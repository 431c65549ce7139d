-- What came of serving what a folder keeps.
use Rattle.std.specs.Prelude.{◌≡◌, ◌≢◌, ◌⊎◌, ℕ, ◌+◌, ◌<◌, ◌≤◌, ◌^◌, true, List, [], Option, Some, None, IfSome, IsSomeAnd, Result, Ok, Err}
use Rattle.std.specs.Option.{option_map}
use Rattle.hc_rules.specs.declared.room.Limits.{Limits}
use Rattle.hc_contents.specs.Fit.{unfit_of}
use Rattle.hc_contents.specs.PlainContents.{plain_contents}
use Rattle.hc_model.specs.Entries.{Contents}
use Rattle.hc_sched.specs.declared.schedule.Ended.{Ended}
use Rattle.hc_sched.specs.declared.schedule.Ended.TheVariants as ended
use Rattle.hc_wire.specs.Logs.{Log, Reports, with_binding}
use Rattle.hc_wire.specs.Wires.{HasRisen}
use Rattle.hc_wire.specs.declared.event.WireError.{WireError}
use Rattle.hc_wire.specs.declared.event.WireError.TheVariants as wire
use Rattle.hc_core.specs.Steps.{limits_in, steps, bytes_received}
use Rattle.hc_core.specs.declared.begin.ContentsError.{ContentsError}
use Rattle.hc_core.specs.declared.begin.ContentsError.TheVariants as refusal
use Rattle.hc_folder.specs.Closing.{StandsAs}
use Rattle.hc_folder.specs.Files.{Files}
use Rattle.hc_folder.specs.declared.recording.Standing.{Standing}
use Rattle.hc_image.specs.Images.{image_of}
use Rattle.hc_keeping.specs.Images.{IsNewImage}
use Rattle.hc_keeping.specs.Keeps.{HasKeepCause, Keeps}
use Rattle.hc_keeping.specs.declared.keeping.KeepError.{KeepError}
use Rattle.hc_keeping.specs.declared.keeping.Kept.{Kept}
use Rattle.hc_proxy.specs.Keeping.{IsStocked}
use Rattle.hc_proxy.specs.Recorded.{Records}
use Rattle.hc_proxy.specs.Rows.{setting_of}
use Rattle.hc_proxy.specs.Served.{ServesWith}
use Rattle.hc_keep_app.specs.declared.serving.Ready.{Ready}
use Rattle.hc_keep_app.specs.declared.serving.Serving.{Serving}
use Rattle.hc_keep_app.specs.declared.serving.Unserved.{Unserved}
use Rattle.hc_keep_app.specs.declared.serving.Unserved.TheVariants as why

-- WHAT IS SERVED

-- The text that a folder takes, if it tells its files.
abbrev pub taken_by : Option Files → List ℕ → Option (List ℕ)
taken_by files text = option_map (λ (f : Files). text) files

-- Where a folder tells its files, it tells them on, and they say the image of these contents, and behind that a first part of this
-- text, or all of it. While the image is owed, nothing is said of them.
abbrev pub IsKept : Contents → ℕ → List ℕ → Standing → Option Files → Option Files → Type 0
IsKept contents n text standing None files' = files' ≡ None
IsKept contents n text standing (Some f) files' =
    IsSomeAnd files' (λ (f' : Files). ∥ StandsAs (image_of contents) n text f' standing ∥₁)

-- The wire was bound as it is asked, and served from the contents that were recovered of the files, with a front for requests on
-- condition of a copy: what happened is a run from these contents, in which each consumer reads one answer whole. The text that was
-- recorded of it, all or a first part, is kept in the folder behind the image of the contents.
pub record IsServed (serving : Serving) (files : Option Files) (log log' : Option Log) (files' : Option Files) (standing : Standing) (end : Ended)
    : Type 0 where
  pub kept : Kept
  pub recovered : IfSome files (λ f. Keeps serving.limits f (Ok kept))
  pub bound : Option Log
  pub binds : Reports log bound (with_binding (Some serving.listen) (Some serving.origin))
  pub text : List ℕ
  pub serves : ServesWith serving.limits (setting_of (plain_contents kept.contents) true) serving.turns bound log'
      (taken_by files []) (taken_by files text) end
  pub records : Records serving.limits (plain_contents kept.contents) (taken_by files []) (taken_by files text) end
  pub keeps : IsKept (plain_contents kept.contents) kept.next text standing files files'
  -- no record in memory or in a folder fails
  pub never : end ≢ ended.SinkFailed

-- no number is left for a record, a consumer or an exchange: no cache may begin with these contents then
abbrev pub IsUsedUp : Limits → Contents → ℕ → Type 0
IsUsedUp limits contents next =
    (2 ^ 62 ≤ next) ⊎ ((2 ^ 61 ≤ contents.last_consumer) ⊎ (unfit_of limits contents ≢ None))

-- Why nothing is.
pub data IsUnserved (limits : Limits) (files : Option Files) : Unserved → Type 0 where
  unrecovered : (e : KeepError) → IfSome files (λ f. Keeps limits f (Err e)) → IsUnserved limits files (why.Unrecovered e)
  used_up : (kept : Kept) → IfSome files (λ f. Keeps limits f (Ok kept)) →
      IsUsedUp limits (plain_contents kept.contents) kept.next → IsUnserved limits files why.UsedUp
  unbound : (kept : Kept) → IfSome files (λ f. Keeps limits f (Ok kept)) → IsUnserved limits files why.Unbound
  lacking : IsUnserved limits files why.NoMemory

-- A failure of the folder comes only where a fault was counted, and none is counted where it doesn't come.
abbrev pub HasFolderEnd : ℕ → ℕ → Unserved → Type 0
HasFolderEnd before now (why.Unrecovered e) = HasKeepCause {T = Kept} before now (Err e)
HasFolderEnd before now _ = now ≡ before

-- So it is of the wire.
abbrev pub HasRefusedWire : ℕ → ℕ → Unserved → Type 0
HasRefusedWire before now why.Unbound = HasRisen before now
HasRefusedWire before now _ = now ≡ before

abbrev pub HasEndedWire : ℕ → ℕ → Ended → Type 0
HasEndedWire before now ended.WireFailed = HasRisen before now
HasEndedWire before now _ = now ≡ before

-- BEFORE THAT

-- A cache that begins with these contents, and their new image.
pub record IsReady (limits : Limits) (contents : Contents) (next : ℕ) (ready : Ready) : Type 0 where
  pub image : IsNewImage contents next ready.image
  pub next_is : ready.next ≡ next
  pub numbered : next < 2 ^ 62
  pub stocked : IsStocked contents ready.cache ready.last
  pub few : ready.last < 2 ^ 61
  pub unused : steps ready.cache + bytes_received ready.cache ≡ 0
  pub limits_are : limits_in ready.cache ≡ limits

-- why there is none
abbrev pub IsUnready : Limits → Contents → ℕ → Unserved → Type 0
IsUnready limits contents next why.UsedUp = IsUsedUp limits contents next
IsUnready limits contents next why.NoMemory = Unit {0}
IsUnready limits contents next _ = ⊥

-- it was recovered of the files, and then the wire was bound
pub record IsBegun (serving : Serving) (files : Option Files) (log log' : Option Log) (ready : Ready) : Type 0 where
  pub kept : Kept
  pub recovered : IfSome files (λ f. Keeps serving.limits f (Ok kept))
  pub ready_is : IsReady serving.limits (plain_contents kept.contents) kept.next ready
  pub binds : Reports log log' (with_binding (Some serving.listen) (Some serving.origin))

abbrev pub of_wire : WireError → Unserved
of_wire wire.WireFailed = why.Unbound
of_wire wire.NoMemory = why.NoMemory

abbrev pub unserved_by : ContentsError → Unserved
unserved_by (refusal.BadContent i) = why.UsedUp
unserved_by refusal.Full = why.UsedUp
unserved_by refusal.Fault = why.NoMemory
unserved_by refusal.NoMemory = why.NoMemory
