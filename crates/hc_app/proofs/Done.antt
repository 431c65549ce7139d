-- What the program did, by how a replay or a generation ended.
--
-- A store in memory counts no failure, so a run over it tells none (`whole`), and how far events were replayed tells
-- the report that is owed or begun (`report_owed`, `begun`). An ending and what was told of it have the ending in common,
-- so at each there are one or three cases (`does_replay`, `does_generate`). What the streams counted is handed on as
-- the calls below told it.
use Rattle.std.{proofs.{Common.{◌≡◌, ◌≢◌, ℕ, List, [], ◌∷◌, Option, Err, refl, sym, subst, arith}, lemmas.List.{append-nil}}, specs.Result.{IsErrOf}}
use Rattle.hc_io.specs.{Faults.{HasRisen}, declared.sink.SinkError.{SinkError}, Sink.{Takes, TakesPrefix}}
use Rattle.hc_io.specs.declared.sink.SinkError.TheVariants as sink
use Rattle.hc_io.proofs.{Givings.{gives_none}, Takings.{takes_none}}
use Rattle.hc_rules.specs.declared.room.Limits.{Limits}
use Rattle.hc_sched.specs.declared.schedule.{Ended.{Ended}, Timed.{Timed}}
use Rattle.hc_sched.specs.declared.schedule.Ended.TheVariants as ended
use Rattle.hc_driver.specs.Endings as endings
use Rattle.hc_driver.specs.{Endings.{How, UpToEnd, SoFar, ToEnd, IsSteppedAtOnce}, Stepping.{History, report_of, report_before, last_entry}}
use Rattle.hc_driver.proofs.ReportSteps.{all_reported}
use Rattle.hc_model.specs.{Entries.{no_contents}, Runs.{IsRun}}
use Rattle.hc_core.specs.{declared.cache.Cache.{Cache}, Steps.{StandsFor, limits_in, faults_in}}
use Rattle.hc_replay.specs.Replays as replays
use Rattle.hc_replay.specs.{Replays.{IsReplayed}, Histories.{run_of}, WholeRuns.{IsWholeRun}}
use Rattle.hc_replay.specs.Generates as generates
use Rattle.hc_app.specs.{declared.status.Status.{Status}, Concluding.{Concludes}, Owing.{Streams, Does}, Replaying.{store_limits, IsWhole, IsReport, BeginsReplay}, Statuses.{stopped_as}, Texts.{usage_text}}
use Rattle.hc_app.specs.declared.status.Status.TheVariants as status
use Rattle.hc_app.specs.Concluding as concluding
use Rattle.hc_app.specs.Generating as generating
use Rattle.hc_app.specs.Owing as owing
use Rattle.hc_app.specs.Program as program
use Rattle.hc_app.specs.Replaying as replaying
use Rattle.hc_app.proofs.Saved.{then_front}

-- NO WIRE IS USED

no_wire : (Went : How → List Timed → Type 0) (moment : ℕ) (left left' : Option (List ℕ)) → endings.Ends Went moment left left' ended.WireFailed → ⊥
no_wire Went moment left left' ends = elim ends [ ]

pub never_wire : (Went : How → List Timed → Type 0) (moment : ℕ) (left left' : Option (List ℕ)) (e : Ended) → endings.Ends Went moment left left' e →
    e ≢ ended.WireFailed
never_wire Went moment left left' e ends = λ is. no_wire Went moment left left' (subst (λ (x : Ended). endings.Ends Went moment left left' x) is ends)

-- REPLAYING

-- a cache in memory, whose store counts no failure
module _ {B : Type 0} {g : Rattle.hc_store.specs.declared.backend.Backend.Ghosts B} (s : Cache B g) (new : StandsFor s no_contents [])
    (limits : limits_in s ≡ store_limits) (calm : (u : Cache B g) → faults_in u ≡ 0) where
  whole : (u : Cache B g) (events : List Timed) (h : History) → IsReplayed s u events h → IsWhole h
  whole u events h is =
      let none = calm u in
      let counted = is.counted in
      let all = subst (IsWholeRun (limits_in s) no_contents) (append-nil (run_of h)) (is.goes_on no_contents [] new).whole in
      record {
        run = subst (λ (l : Limits). IsRun l no_contents (run_of h)) limits all.run;
        reads = all.reads;
        sound = omega arith;
      }

  report_owed : (u : Cache B g) (events : List Timed) (h : History) → IsReplayed s u events h → IsReport events (report_of h)
  report_owed u events h is = record { history = h; whole = whole u events h is; events_are = is.events_are; report_is = refl }

  begun : (u : Cache B g) (text : List ℕ) (first rest : List Timed) (h : History) → IsReplayed s u first h → IsSteppedAtOnce 0 text first rest →
      BeginsReplay text (report_before h) (last_entry h)
  begun u text first rest h is stepped = record {
    history = h;
    rest = rest;
    stepped = subst (λ (l : List Timed). IsSteppedAtOnce 0 text l rest) (sym is.events_are) stepped;
    whole = whole u first h is;
    report_is = refl;
    entry_is = refl;
  }

  module _ (u : Cache B g) (left left' out out' diag diag' : Option (List ℕ)) (o o' d d' : ℕ) where
    abbrev before : Streams
    before = record { left = left; out = out; diag = diag; out_faults = o; diag_faults = d }

    abbrev after : Streams
    after = record { left = left'; out = out'; diag = diag'; out_faults = o'; diag_faults = d' }

    abbrev Went : How → List Timed → Type 0
    Went = replays.Replays s u out out'

    -- no replay is over before its schedule
    never_over : (events : List Timed) → Went UpToEnd events → ⊥
    never_over events went = elim went [ ]

    pub does_replay : (e : Ended) (st : Status) → endings.Ends Went 0 left left' e → Concludes diag diag' d d' e st →
        (e ≡ ended.SinkFailed → HasRisen o o') → (e ≢ ended.SinkFailed → o' ≡ o) → Does replaying.replaying before after st
    does_replay _ _ (endings.done text items gives spells (replays.wholly h is taken)) (concluding.quiet _ _ concluding.done same sound) failed kept =
        owing.done ToEnd text (report_of h) gives (replaying.spelled text (report_of h) items spells (report_owed u _ h is)) taken same
    does_replay _ _ (endings.over text first rest gives stepped went) reported failed kept = absurd (never_over first went)
    does_replay _ _ (endings.refused reach text r read refused went) (concluding.quiet _ _ is_quiet same sound) failed kept = elim is_quiet [ ]
    does_replay _ _ (endings.refused reach text r read refused (replays.wholly h is taken)) (concluding.reported _ said sound) failed kept =
        owing.said reach text (report_of h) _ _ read (replaying.refused reach text (report_of h) r refused (report_owed u _ h is)) taken said
    does_replay _ _ (endings.refused reach text r read refused (replays.wholly h is taken)) (concluding.unreported _ said risen) failed kept =
        owing.unsaid reach text (report_of h) _ _ read (replaying.refused reach text (report_of h) r refused (report_owed u _ h is)) taken said
        (record { failed = risen; sound = kept (λ other. cc) })
    does_replay _ _ (endings.refused reach text r read refused (replays.wholly h is taken)) (concluding.wanting_word _ said sound) failed kept =
        owing.wanting_word reach text (report_of h) _ _ read (replaying.refused reach text (report_of h) r refused (report_owed u _ h is)) taken said
    does_replay _ _ (endings.unreadable text gives unrefused (replays.wholly h is taken)) (concluding.quiet _ _ concluding.unreadable same sound) failed kept =
        owing.unreadable text (report_of h) gives (unrefused, report_owed u _ h is) taken same
    does_replay _ _ (endings.unwritten text first rest gives stepped (replays.up_to_last h is taken))
        (concluding.quiet _ _ concluding.unwritten same sound) failed kept =
        owing.unwritten text (report_before h) (last_entry h) gives (begun u text first rest h is stepped) taken
        (record { failed = failed refl; unsaid = same; sound = sound })
    does_replay _ _ (endings.wanting text first rest gives stepped (replays.up_to_last h is taken)) (concluding.quiet _ _ concluding.wanting same sound)
        failed kept =
        owing.wanting text (report_before h) (last_entry h) gives (begun u text first rest h is stepped) taken same
    does_replay _ _ (endings.wanting_answer text first rest next gives stepped (replays.up_to_want h last is taken spent))
        (concluding.quiet _ _ concluding.wanting same sound) failed kept =
        owing.wanting text (report_before h) (last_entry h) gives (begun last text first (next ∷ rest) h is stepped) (all_reported h out out' taken) same

-- GENERATING

module _ (seed n : ℕ) (left out out' diag diag' : Option (List ℕ)) (o o' d d' : ℕ) where
  abbrev at_first : Streams
  at_first = record { left = left; out = out; diag = diag; out_faults = o; diag_faults = d }

  abbrev at_last : Streams
  at_last = record { left = left; out = out'; diag = diag'; out_faults = o'; diag_faults = d' }

  begins : (text : List ℕ) → Rattle.hc_replay.specs.Summaries.IsSummary store_limits seed n text → generating.BeginsSummary seed n [] [] text
  begins text is = record { unread = refl; nothing = refl; is_summary = is }

  pub does_generate : (e : Ended) (st : Status) → generates.Generates store_limits seed n out out' e → Concludes diag diag' d d' e st →
      (e ≡ ended.SinkFailed → HasRisen o o') → (e ≢ ended.SinkFailed → o' ≡ o)
      → Does (generating.generating seed n) at_first at_last st
  does_generate _ _ (generates.done text is takes) (concluding.quiet _ _ concluding.done same sound) failed kept =
      owing.done SoFar [] text (gives_none left) (generating.made text is) takes same
  does_generate _ _ (generates.unwritten text is takes) (concluding.quiet _ _ concluding.unwritten same sound) failed kept =
      owing.unwritten [] [] text (gives_none left) (begins text is) (then_front out out' text takes)
      (record { failed = failed refl; unsaid = same; sound = sound })
  does_generate _ _ (generates.wanting text is takes) (concluding.quiet _ _ concluding.wanting same sound) failed kept =
      owing.wanting [] [] text (gives_none left) (begins text is) (then_front out out' text takes) same
  does_generate _ _ (generates.unfinished unwritten) (concluding.quiet _ _ concluding.wanting same sound) failed kept =
      let o_same : o' ≡ o = kept (λ other. cc) in
      owing.wanting_all (rw (unwritten, same, sound, o_same) refl)

module _ (seed n : ℕ) (out out' : Option (List ℕ)) where
  pub never_read : (e : Ended) → generates.Generates store_limits seed n out out' e → e ≢ ended.SourceFailed
  never_read _ (generates.done text is takes) = λ is. cc
  never_read _ (generates.unwritten text is takes) = λ is. cc
  never_read _ (generates.wanting text is takes) = λ is. cc
  never_read _ (generates.unfinished same) = λ is. cc

  pub never_wired : (e : Ended) → generates.Generates store_limits seed n out out' e → e ≢ ended.WireFailed
  never_wired _ (generates.done text is takes) = λ is. cc
  never_wired _ (generates.unwritten text is takes) = λ is. cc
  never_wired _ (generates.wanting text is takes) = λ is. cc
  never_wired _ (generates.unfinished same) = λ is. cc

-- THE USAGE

module _ (left out diag diag' : Option (List ℕ)) (o d d' : ℕ) where
  abbrev untouched : Streams
  untouched = record { left = left; out = out; diag = diag; out_faults = o; diag_faults = d }

  abbrev with_word : Streams
  with_word = record { left = left; out = out; diag = diag'; out_faults = o; diag_faults = d' }

  pub usage_said : Takes diag diag' usage_text → Does program.saying_usage untouched with_word status.Usage
  usage_said said = owing.said SoFar [] [] usage_text status.Usage (gives_none left) program.usage_alone (takes_none out) said

  pub usage_unsaid : (e : SinkError) → TakesPrefix diag diag' usage_text → (IsErrOf {T = Unit {0}} (Err e) sink.SinkFailed → HasRisen d d') →
      Does program.saying_usage untouched with_word (stopped_as e)
  usage_unsaid sink.SinkFailed said failed =
      owing.unsaid SoFar [] [] usage_text status.Usage (gives_none left) program.usage_alone (takes_none out) said
      (record { failed = failed refl; sound = refl })
  usage_unsaid sink.NoMemory said failed = owing.wanting_word SoFar [] [] usage_text status.Usage (gives_none left) program.usage_alone (takes_none out) said
