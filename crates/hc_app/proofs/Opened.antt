-- What the program did, by how an open ended.
--
-- Where the image is refused its text is told, and nothing was written (`does_refuse`). Else the schedule was run: what
-- went on behind the image is the report that is owed or begun (`report_owed`, `begun`), at each ending (`does_run`). An
-- ending says of its status what that of the schedule says, and no status but 7 comes of a refused image.
use Rattle.std.{proofs.Common.{◌≡◌, ◌≢◌, ℕ, List, [], ◌∷◌, Option, Some, None, Err, refl, sym, ap, subst}, specs.Result.{IsErrOf}}
use Rattle.hc_io.specs.{Faults.{HasRisen}, Sink.{Takes, TakesPrefix}, Source.{Gives, GivesAll}, declared.sink.SinkError.{SinkError}}
use Rattle.hc_io.specs.declared.sink.SinkError.TheVariants as sink
use Rattle.hc_sched.specs.{declared.schedule.{Ended.{Ended}, Timed.{Timed}}, Schedule.{Spells}}
use Rattle.hc_sched.specs.declared.schedule.Ended.TheVariants as ended
use Rattle.hc_driver.specs.Endings as endings
use Rattle.hc_driver.specs.{Endings.{How, UpToEnd, ToEnd, IsSteppedAtOnce}, Stepping.{History, report_of, report_before, last_entry}}
use Rattle.hc_driver.proofs.ReportSteps.{all_reported}
use Rattle.hc_contents.specs.Fit.{unfit_of}
use Rattle.hc_model.specs.Entries.{Contents}
use Rattle.hc_saving.specs.{declared.open.OpenEnded.{OpenEnded}, Opens.{Continues}, Continued.{IsOpened, IsContinued}}
use Rattle.hc_saving.specs.declared.open.OpenEnded.TheVariants as opened
use Rattle.hc_saving.specs.Opens as opens
use Rattle.hc_saving.proofs.Saved.{gives_front}
use Rattle.hc_app.specs.{declared.status.Status.{Status}, Concluding.{Concludes}, Failing.{IsStreamStatus}, Opening.{IsRefusedImage, IsTaken, IsReportFrom, IsImageRefused, ConcludesOpen}, Owing.{Streams, Does}, Replaying.{store_limits}, Statuses.{stopped_as}, Texts.{image_text}}
use Rattle.hc_app.specs.declared.status.Status.TheVariants as status
use Rattle.hc_app.specs.Concluding as concluding
use Rattle.hc_app.specs.Opening as opening
use Rattle.hc_app.specs.Owing as owing
use Rattle.hc_app.proofs.Concluded as concluded
use Rattle.hc_app.proofs.{Failed.{all_calm, diag_risen}, Done.{never_wire}, Saved.{untaken, none_taken}}

-- HOW IT IS TOLD

module _ (diag diag' : Option (List ℕ)) (d d' : ℕ) where
  -- a refused image
  pub refusal_reported : (e : OpenEnded) → ((x : Ended) → e ≢ opened.Ran x) → Takes diag diag' (image_text e) → d' ≡ d →
      ConcludesOpen diag diag' d d' e status.ImageRefused
  refusal_reported e off said calm = opening.reported e (refused e off) said calm
    where
      refused : (e : OpenEnded) → ((x : Ended) → e ≢ opened.Ran x) → IsImageRefused e
      refused (opened.Ran x) off = off x refl
      refused opened.BadImage off = tt
      refused (opened.BadContent i) off = tt
      refused opened.Full off = tt

  pub refusal_unreported : (e : OpenEnded) → ((x : Ended) → e ≢ opened.Ran x) → (error : SinkError) → TakesPrefix diag diag' (image_text e) →
      (IsErrOf {T = Unit {0}} (Err error) sink.SinkFailed → HasRisen d d')
      → (IsErrOf {T = Unit {0}} (Err error) sink.NoMemory → d' ≡ d) → ConcludesOpen diag diag' d d' e (stopped_as error)
  refusal_unreported (opened.Ran x) off error front failed calm = absurd (off x refl)
  refusal_unreported opened.BadImage off sink.SinkFailed front failed calm = opening.unreported opened.BadImage tt front (failed refl)
  refusal_unreported opened.BadImage off sink.NoMemory front failed calm = opening.wanting_word opened.BadImage tt front (calm refl)
  refusal_unreported (opened.BadContent i) off sink.SinkFailed front failed calm = opening.unreported (opened.BadContent i) tt front (failed refl)
  refusal_unreported (opened.BadContent i) off sink.NoMemory front failed calm = opening.wanting_word (opened.BadContent i) tt front (calm refl)
  refusal_unreported opened.Full off sink.SinkFailed front failed calm = opening.unreported opened.Full tt front (failed refl)
  refusal_unreported opened.Full off sink.NoMemory front failed calm = opening.wanting_word opened.Full tt front (calm refl)

  -- WHAT ITS STATUS SAYS

  ran_once : (a b : Ended) → opened.Ran a ≡ opened.Ran b → a ≡ b
  ran_once a b same = cc

  module _ (input input' out out' : ℕ) where
    pub stream_status : (e : OpenEnded) (s : Status) → ConcludesOpen diag diag' d d' e s → (e ≡ opened.Ran ended.SourceFailed → HasRisen input input') →
        (e ≢ opened.Ran ended.SourceFailed → input' ≡ input)
        → (e ≡ opened.Ran ended.SinkFailed → HasRisen out out') → (e ≢ opened.Ran ended.SinkFailed → out' ≡ out) → IsStreamStatus input input' out out' d d' s
    stream_status _ s (opening.ran e _ by) source still sinks kept =
        concluded.stream_status diag diag' d d' input input' out out' e s by (λ is. source (ap opened.Ran is))
        (λ off. still (λ is. off (ran_once e ended.SourceFailed is))) (λ is. sinks (ap opened.Ran is))
        (λ off. kept (λ is. off (ran_once e ended.SinkFailed is)))
    stream_status e _ (opening.reported _ refused said calm) source still sinks kept =
        all_calm input input' out out' d d' status.ImageRefused (λ is. cc) (λ is. cc) (still (λ is. subst IsImageRefused is refused))
        (kept (λ is. subst IsImageRefused is refused)) calm
    stream_status e _ (opening.unreported _ refused said risen) source still sinks kept =
        diag_risen input input' out out' d d' risen (still (λ is. subst IsImageRefused is refused))
    stream_status e _ (opening.wanting_word _ refused said calm) source still sinks kept =
        all_calm input input' out out' d d' status.NoMemory (λ is. cc) (λ is. cc) (still (λ is. subst IsImageRefused is refused))
        (kept (λ is. subst IsImageRefused is refused)) calm

  pub wireless : (e : OpenEnded) (s : Status) → ConcludesOpen diag diag' d d' e s → s ≢ status.WireFailed
  wireless _ s (opening.ran e _ by) = concluded.wireless diag diag' d d' e s by
  wireless e _ (opening.reported _ refused said calm) = λ is. cc
  wireless e _ (opening.unreported _ refused said failed) = λ is. cc
  wireless e _ (opening.wanting_word _ refused said calm) = λ is. cc

-- WHAT IT DID

module _ (left left' out out' diag diag' : Option (List ℕ)) (o o' d d' : ℕ) where
  abbrev before : Streams
  before = record { left = left; out = out; diag = diag; out_faults = o; diag_faults = d }

  abbrev after : Streams
  after = record { left = left'; out = out'; diag = diag'; out_faults = o'; diag_faults = d' }

  does_refuse : (text : List ℕ) (e : OpenEnded) (st : Status) → GivesAll left left' text → IsRefusedImage text e → out' ≡ out → IsImageRefused e →
      ConcludesOpen diag diag' d d' e st → (e ≢ opened.Ran ended.SinkFailed → o' ≡ o)
      → Does opening.opening before after st
  does_refuse text _ st gives why unwritten refused (opening.ran e _ by) kept = absurd refused
  does_refuse text e _ gives why unwritten refused (opening.reported _ is said calm) kept =
      owing.said ToEnd text [] (image_text e) status.ImageRefused gives (opening.refused_image text e why) (untaken out out' unwritten) said
  does_refuse text e _ gives why unwritten refused (opening.unreported _ is said failed) kept =
      owing.unsaid ToEnd text [] (image_text e) status.ImageRefused gives (opening.refused_image text e why) (untaken out out' unwritten) said
      (record { failed = failed; sound = kept (λ same. subst IsImageRefused same refused) })
  does_refuse text e _ gives why unwritten refused (opening.wanting_word _ is said calm) kept =
      owing.wanting_word ToEnd text [] (image_text e) status.ImageRefused gives (opening.refused_image text e why) (untaken out out' unwritten) said

  module _ (text schedule : List ℕ) (contents : Contents) (rest : Option (List ℕ)) (gives : GivesAll left left' text)
      (is : IsOpened text contents schedule) (fits : unfit_of store_limits contents ≡ None) where
    taken_so : IsTaken text contents schedule
    taken_so = record { is_opened = is; fits = fits }

    report_owed : (events : List Timed) (h : History) → IsContinued store_limits contents events h → IsReportFrom contents events (report_of h)
    report_owed events h continued = record { history = h; continued = continued; report_is = refl }

    begun : (part : List ℕ) (first more : List Timed) (h : History) → Gives (Some schedule) rest part → IsContinued store_limits contents first h →
        IsSteppedAtOnce contents.now part first more → opening.BeginsOpen text (report_before h) (last_entry h)
    begun part first more h given continued stepped = opening.report (record {
      schedule = schedule;
      contents = contents;
      is_taken = taken_so;
      part = part;
      left = rest;
      gives = given;
      history = h;
      rest = more;
      stepped = subst (λ (l : List Timed). IsSteppedAtOnce contents.now part l more) (sym continued.events_are) stepped;
      continued = subst (λ (l : List Timed). IsContinued store_limits contents l h) (sym continued.events_are) continued;
      report_is = refl;
      entry_is = refl;
    })

    abbrev Went : How → List Timed → Type 0
    Went = Continues store_limits contents out out'

    never_over : (events : List Timed) → Went UpToEnd events → ⊥
    never_over events went = elim went [ ]

    does_run : (e : Ended) (st : Status) → e ≢ ended.SourceFailed → endings.Ends Went contents.now (Some schedule) rest e →
        Concludes diag diag' d d' e st → (e ≡ ended.SinkFailed → HasRisen o o') → (e ≢ ended.SinkFailed → o' ≡ o)
        → Does opening.opening before after st
    does_run _ _ readable (endings.done part items given spells (opens.wholly h continued taken)) (concluding.quiet _ _ concluding.done same sound) failed
        kept =
        owing.done ToEnd text (report_of h) gives
        (opening.spelled text schedule (report_of h) contents items taken_so (subst (λ (l : List ℕ). Spells contents.now l items) given.0 spells)
        (report_owed _ h continued)) taken same
    does_run _ _ readable (endings.over part first more given stepped went) said failed kept = absurd (never_over first went)
    does_run _ _ readable (endings.refused reach part r read refused went) (concluding.quiet _ _ is_quiet same sound) failed kept = elim is_quiet [ ]
    does_run _ _ readable (endings.refused reach part r read refused (opens.wholly h continued taken)) (concluding.reported _ said sound) failed kept =
        owing.said ToEnd text (report_of h) _ _ gives
        (opening.refused text schedule part (report_of h) contents reach rest r taken_so read refused (report_owed _ h continued)) taken said
    does_run _ _ readable (endings.refused reach part r read refused (opens.wholly h continued taken)) (concluding.unreported _ said risen) failed kept =
        owing.unsaid ToEnd text (report_of h) _ _ gives
        (opening.refused text schedule part (report_of h) contents reach rest r taken_so read refused (report_owed _ h continued)) taken said
        (record { failed = risen; sound = kept (λ other. cc) })
    does_run _ _ readable (endings.refused reach part r read refused (opens.wholly h continued taken)) (concluding.wanting_word _ said sound) failed kept =
        owing.wanting_word ToEnd text (report_of h) _ _ gives
        (opening.refused text schedule part (report_of h) contents reach rest r taken_so read refused (report_owed _ h continued)) taken said
    does_run _ _ readable (endings.unreadable part given unrefused went) said failed kept = absurd (readable refl)
    does_run _ _ readable (endings.unwritten part first more given stepped (opens.up_to_last h continued taken))
        (concluding.quiet _ _ concluding.unwritten same sound) failed kept =
        owing.unwritten text (report_before h) (last_entry h) (gives_front left left' text gives) (begun part first more h given continued stepped) taken
        (record { failed = failed refl; unsaid = same; sound = sound })
    does_run _ _ readable (endings.wanting part first more given stepped (opens.up_to_last h continued taken))
        (concluding.quiet _ _ concluding.wanting same sound) failed kept =
        owing.wanting text (report_before h) (last_entry h) (gives_front left left' text gives) (begun part first more h given continued stepped) taken same
    does_run _ _ readable (endings.wanting_answer part first more next given stepped (opens.up_to_want h continued taken))
        (concluding.quiet _ _ concluding.wanting same sound) failed kept =
        owing.wanting text (report_before h) (last_entry h) (gives_front left left' text gives) (begun part first (next ∷ more) h given continued stepped)
        (all_reported h out out' taken) same

  -- the input failed, or memory was refused, before that
  does_stop : (text : List ℕ) (st : Status) → Gives left left' text → out' ≡ out → Concludes diag diag' d d' ended.SourceFailed st →
      Does opening.opening before after st
  does_stop text _ gives unwritten (concluding.quiet _ _ concluding.unreadable same sound) =
      owing.unreadable text [] gives refl (untaken out out' unwritten) same

  does_want : (text : List ℕ) (st : Status) → Gives left left' text → out' ≡ out → Concludes diag diag' d d' ended.NoMemory st →
      Does opening.opening before after st
  does_want text _ gives unwritten (concluding.quiet _ _ concluding.wanting same sound) =
      owing.wanting text [] [] gives opening.nothing (none_taken out out' unwritten) same

  pub does_open : (e : OpenEnded) (st : Status) → opens.Opens store_limits left left' out out' e → ConcludesOpen diag diag' d d' e st →
      (e ≡ opened.Ran ended.SinkFailed → HasRisen o o') → (e ≢ opened.Ran ended.SinkFailed → o' ≡ o)
      → Does opening.opening before after st
  does_open _ st (opens.bad_image text gives none unwritten) by failed kept =
      does_refuse text opened.BadImage st gives (opening.bad_image none) unwritten tt by kept
  does_open _ st (opens.bad_content text schedule contents i gives is says unwritten) by failed kept =
      does_refuse text (opened.BadContent i) st gives (opening.bad_content schedule contents i is says) unwritten tt by kept
  does_open _ st (opens.full text schedule contents gives is says unwritten) by failed kept =
      does_refuse text opened.Full st gives (opening.full schedule contents is says) unwritten tt by kept
  does_open _ st (opens.ran text schedule contents rest e gives is fits readable ends) (opening.ran _ _ by) failed kept =
      does_run text schedule contents rest gives is fits e st readable ends by (λ same. failed (ap opened.Ran same)) (λ off. kept (λ same. off (inner same)))
    where
      inner : opened.Ran e ≡ opened.Ran ended.SinkFailed → e ≡ ended.SinkFailed
      inner same = cc
  does_open _ st (opens.ran text schedule contents rest e gives is fits readable ends) (opening.reported _ refused said calm) failed kept = absurd refused
  does_open _ st (opens.ran text schedule contents rest e gives is fits readable ends) (opening.unreported _ refused said risen) failed kept = absurd refused
  does_open _ st (opens.ran text schedule contents rest e gives is fits readable ends) (opening.wanting_word _ refused said calm) failed kept = absurd refused
  does_open _ st (opens.unreadable text gives unwritten) (opening.ran _ _ by) failed kept = does_stop text st gives unwritten by
  does_open _ st (opens.unreadable text gives unwritten) (opening.reported _ refused said calm) failed kept = absurd refused
  does_open _ st (opens.unreadable text gives unwritten) (opening.unreported _ refused said risen) failed kept = absurd refused
  does_open _ st (opens.unreadable text gives unwritten) (opening.wanting_word _ refused said calm) failed kept = absurd refused
  does_open _ st (opens.wanting text gives unwritten) (opening.ran _ _ by) failed kept = does_want text st gives unwritten by
  does_open _ st (opens.wanting text gives unwritten) (opening.reported _ refused said calm) failed kept = absurd refused
  does_open _ st (opens.wanting text gives unwritten) (opening.unreported _ refused said risen) failed kept = absurd refused
  does_open _ st (opens.wanting text gives unwritten) (opening.wanting_word _ refused said calm) failed kept = absurd refused

module _ (left left' out out' : Option (List ℕ)) where
  pub never_wired : (e : OpenEnded) → opens.Opens store_limits left left' out out' e → e ≢ opened.Ran ended.WireFailed
  never_wired _ (opens.bad_image text gives none unwritten) = λ is. cc
  never_wired _ (opens.bad_content text schedule contents i gives is says unwritten) = λ is. cc
  never_wired _ (opens.full text schedule contents gives is says unwritten) = λ is. cc
  never_wired _ (opens.ran text schedule contents rest e gives is fits readable ends) = λ same. never_wire _ _ _ _ e ends (inner same)
    where
      inner : opened.Ran e ≡ opened.Ran ended.WireFailed → e ≡ ended.WireFailed
      inner same = cc
  never_wired _ (opens.unreadable text gives unwritten) = λ is. cc
  never_wired _ (opens.wanting text gives unwritten) = λ is. cc
