-- What the program did, by how a save ended.
use Rattle.std.proofs.Common.{◌≡◌, ◌≢◌, ℕ, List, [], Option, refl, sym, subst}
use Rattle.hc_io.specs.{Faults.{HasRisen}, Sink.{Takes, TakesPrefix}}
use Rattle.hc_io.proofs.Takings.{takes_none}
use Rattle.hc_sched.specs.declared.schedule.Ended.{Ended}
use Rattle.hc_sched.specs.declared.schedule.Ended.TheVariants as ended
use Rattle.hc_driver.specs.{Courses.{TakesThenPrefix}, Endings.{ToEnd}}
use Rattle.hc_saving.specs.Saves as saves
use Rattle.hc_saving.proofs.Saved.{gives_front}
use Rattle.hc_app.specs.{declared.status.Status.{Status}, Concluding.{Concludes}, Owing.{Streams, Does}, Replaying.{store_limits}}
use Rattle.hc_app.specs.Concluding as concluding
use Rattle.hc_app.specs.Owing as owing
use Rattle.hc_app.specs.Saving as saving

module _ (out out' : Option (List ℕ)) where
  -- nothing was taken
  pub untaken : out' ≡ out → Takes out out' []
  untaken same = subst (λ (o : Option (List ℕ)). Takes out o []) (sym same) (takes_none out)

  -- neither before the next nor of it
  pub none_taken : out' ≡ out → TakesThenPrefix out out' [] []
  none_taken same = record { part = []; rest = []; whole = refl; takes = untaken same }

  pub then_front : (text : List ℕ) → TakesPrefix out out' text → TakesThenPrefix out out' [] text
  then_front text takes = record { part = takes.front; rest = takes.rest; whole = takes.whole; takes = takes.takes }

module _ (left left' out out' diag diag' : Option (List ℕ)) (o o' d d' : ℕ) where
  abbrev before : Streams
  before = record { left = left; out = out; diag = diag; out_faults = o; diag_faults = d }

  abbrev after : Streams
  after = record { left = left'; out = out'; diag = diag'; out_faults = o'; diag_faults = d' }

  pub does_save : (e : Ended) (st : Status) → saves.Saves store_limits left left' out out' e → Concludes diag diag' d d' e st →
      (e ≡ ended.SinkFailed → HasRisen o o') → (e ≢ ended.SinkFailed → o' ≡ o) → Does saving.saving before after st
  does_save _ _ (saves.done text image items gives spells is takes) (concluding.quiet _ _ concluding.done same sound) failed kept =
      owing.done ToEnd text image gives (saving.spelled text image items spells is) takes same
  does_save _ _ (saves.refused reach text r read refused unwritten) (concluding.quiet _ _ is_quiet same sound) failed kept = elim is_quiet [ ]
  does_save _ _ (saves.refused reach text r read refused unwritten) (concluding.reported _ said sound) failed kept =
      owing.said reach text [] _ _ read (saving.refused reach text r refused) (untaken out out' unwritten) said
  does_save _ _ (saves.refused reach text r read refused unwritten) (concluding.unreported _ said risen) failed kept =
      owing.unsaid reach text [] _ _ read (saving.refused reach text r refused) (untaken out out' unwritten) said
      (record { failed = risen; sound = kept (λ other. cc) })
  does_save _ _ (saves.refused reach text r read refused unwritten) (concluding.wanting_word _ said sound) failed kept =
      owing.wanting_word reach text [] _ _ read (saving.refused reach text r refused) (untaken out out' unwritten) said
  does_save _ _ (saves.unreadable text gives unrefused unwritten) (concluding.quiet _ _ concluding.unreadable same sound) failed kept =
      owing.unreadable text [] gives (unrefused, refl) (untaken out out' unwritten) same
  does_save _ _ (saves.unwritten text image items gives spells is front) (concluding.quiet _ _ concluding.unwritten same sound) failed kept =
      owing.unwritten text [] image (gives_front left left' text gives) (saving.image_alone image items spells is) (then_front out out' image front)
      (record { failed = failed refl; unsaid = same; sound = sound })
  does_save _ _ (saves.wanting text image items gives spells is front) (concluding.quiet _ _ concluding.wanting same sound) failed kept =
      owing.wanting text [] image (gives_front left left' text gives) (saving.image_alone image items spells is) (then_front out out' image front) same
  does_save _ _ (saves.wanting_early text gives unwritten) (concluding.quiet _ _ concluding.wanting same sound) failed kept =
      owing.wanting text [] [] gives saving.nothing (none_taken out out' unwritten) same

module _ (left left' out out' : Option (List ℕ)) where
  pub never_wired : (e : Ended) → saves.Saves store_limits left left' out out' e → e ≢ ended.WireFailed
  never_wired _ (saves.done text image items gives spells is takes) = λ is. cc
  never_wired _ (saves.refused reach text r read refused unwritten) = λ is. cc
  never_wired _ (saves.unreadable text gives unrefused unwritten) = λ is. cc
  never_wired _ (saves.unwritten text image items gives spells is front) = λ is. cc
  never_wired _ (saves.wanting text image items gives spells is front) = λ is. cc
  never_wired _ (saves.wanting_early text gives unwritten) = λ is. cc
