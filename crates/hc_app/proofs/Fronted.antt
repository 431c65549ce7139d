-- What the program did, by how a replay behind a front ended.
--
-- As at a replay: a store in memory counts no failure, so what the front told tells none (`fronted`), and how far
-- events were replayed tells the report that is owed or begun (`report_owed`, `begun`). An ending and what was told of it
-- have the ending in common, so at each there are one or three cases (`does_front`).
use Rattle.std.proofs.{Common.{◌≡◌, ◌≢◌, ℕ, List, [], ◌∷◌, Option, refl, sym, ap, ◌∙◌, subst, arith}, lemmas.List.{append-nil}}
use Rattle.hc_io.specs.Faults.{HasRisen}
use Rattle.hc_rules.specs.declared.room.Limits.{Limits}
use Rattle.hc_sched.specs.declared.schedule.{Ended.{Ended}, Timed.{Timed}}
use Rattle.hc_sched.specs.declared.schedule.Ended.TheVariants as ended
use Rattle.hc_driver.specs.Endings as endings
use Rattle.hc_driver.specs.{Endings.{How, UpToEnd, ToEnd, IsSteppedAtOnce}, Stepping.{History, report_of, report_before, last_entry}}
use Rattle.hc_driver.proofs.ReportSteps.{all_reported}
use Rattle.hc_model.specs.{Entries.{no_contents}, Runs.{IsRun}}
use Rattle.hc_replay.specs.WholeRuns.{IsWholeRun}
use Rattle.hc_store.specs.declared.backend.Backend.{Ghosts}
use Rattle.hc_front.specs.{declared.front.Front.{Front}, FrontHistories.{FrontHistory, core_of, answered_of}, Replays.{IsReplayed}, Steps.{FrontStands, limits_in, faults_in}}
use Rattle.hc_front.specs.Replays as replays
use Rattle.hc_app.specs.{declared.status.Status.{Status}, Concluding.{Concludes}, Fronting.{IsFronted, IsFrontReport, BeginsFront}, Owing.{Streams, Does}, Replaying.{store_limits}}
use Rattle.hc_app.specs.Concluding as concluding
use Rattle.hc_app.specs.Fronting as fronting
use Rattle.hc_app.specs.Owing as owing

-- a front in memory, whose store counts no failure
module _ {B : Type 0} {g : Ghosts B} (s : Front B g) (new : FrontStands s no_contents []) (limits : limits_in s ≡ store_limits)
    (calm : (u : Front B g) → faults_in u ≡ 0) where
  fronted : (u : Front B g) (events : List Timed) (h : History) → IsReplayed s u events h → IsFronted h
  fronted u events h is =
      let none = calm u in
      let counted = is.counted in
      let on = is.goes_on no_contents [] new in
      let all : IsWholeRun (limits_in s) no_contents (core_of no_contents is.heard) =
      subst (λ (f : FrontHistory). IsWholeRun (limits_in s) no_contents (core_of no_contents f)) (append-nil is.heard) on.whole in
      record {
        heard = is.heard;
        reported = ap (answered_of no_contents) (sym (append-nil is.heard)) ∙ (on.reported ∙ append-nil h);
        run = subst (λ (l : Limits). IsRun l no_contents (core_of no_contents is.heard)) limits all.run;
        reads = all.reads;
        sound = omega arith;
      }

  report_owed : (u : Front B g) (events : List Timed) (h : History) → IsReplayed s u events h → IsFrontReport events (report_of h)
  report_owed u events h is = record { history = h; fronted = fronted u events h is; events_are = is.events_are; report_is = refl }

  begun : (u : Front B g) (text : List ℕ) (first rest : List Timed) (h : History) → IsReplayed s u first h → IsSteppedAtOnce 0 text first rest →
      BeginsFront text (report_before h) (last_entry h)
  begun u text first rest h is stepped = record {
    history = h;
    rest = rest;
    stepped = subst (λ (l : List Timed). IsSteppedAtOnce 0 text l rest) (sym is.events_are) stepped;
    fronted = fronted u first h is;
    report_is = refl;
    entry_is = refl;
  }

  module _ (u : Front B g) (left left' out out' diag diag' : Option (List ℕ)) (o o' d d' : ℕ) where
    abbrev before : Streams
    before = record { left = left; out = out; diag = diag; out_faults = o; diag_faults = d }

    abbrev after : Streams
    after = record { left = left'; out = out'; diag = diag'; out_faults = o'; diag_faults = d' }

    abbrev Went : How → List Timed → Type 0
    Went = replays.ReplaysFront s u out out'

    -- no replay is over before its schedule
    never_over : (events : List Timed) → Went UpToEnd events → ⊥
    never_over events went = elim went [ ]

    pub does_front : (e : Ended) (st : Status) → endings.Ends Went 0 left left' e → Concludes diag diag' d d' e st →
        (e ≡ ended.SinkFailed → HasRisen o o') → (e ≢ ended.SinkFailed → o' ≡ o) → Does fronting.fronting before after st
    does_front _ _ (endings.done text items gives spells (replays.wholly h is taken)) (concluding.quiet _ _ concluding.done same sound) failed kept =
        owing.done ToEnd text (report_of h) gives (fronting.spelled text (report_of h) items spells (report_owed u _ h is)) taken same
    does_front _ _ (endings.over text first rest gives stepped went) reported failed kept = absurd (never_over first went)
    does_front _ _ (endings.refused reach text r read refused went) (concluding.quiet _ _ is_quiet same sound) failed kept = elim is_quiet [ ]
    does_front _ _ (endings.refused reach text r read refused (replays.wholly h is taken)) (concluding.reported _ said sound) failed kept =
        owing.said reach text (report_of h) _ _ read (fronting.refused reach text (report_of h) r refused (report_owed u _ h is)) taken said
    does_front _ _ (endings.refused reach text r read refused (replays.wholly h is taken)) (concluding.unreported _ said risen) failed kept =
        owing.unsaid reach text (report_of h) _ _ read (fronting.refused reach text (report_of h) r refused (report_owed u _ h is)) taken said
        (record { failed = risen; sound = kept (λ other. cc) })
    does_front _ _ (endings.refused reach text r read refused (replays.wholly h is taken)) (concluding.wanting_word _ said sound) failed kept =
        owing.wanting_word reach text (report_of h) _ _ read (fronting.refused reach text (report_of h) r refused (report_owed u _ h is)) taken said
    does_front _ _ (endings.unreadable text gives unrefused (replays.wholly h is taken)) (concluding.quiet _ _ concluding.unreadable same sound) failed kept =
        owing.unreadable text (report_of h) gives (unrefused, report_owed u _ h is) taken same
    does_front _ _ (endings.unwritten text first rest gives stepped (replays.up_to_last h is taken))
        (concluding.quiet _ _ concluding.unwritten same sound) failed kept =
        owing.unwritten text (report_before h) (last_entry h) gives (begun u text first rest h is stepped) taken
        (record { failed = failed refl; unsaid = same; sound = sound })
    does_front _ _ (endings.wanting text first rest gives stepped (replays.up_to_last h is taken)) (concluding.quiet _ _ concluding.wanting same sound)
        failed kept =
        owing.wanting text (report_before h) (last_entry h) gives (begun u text first rest h is stepped) taken same
    does_front _ _ (endings.wanting_answer text first rest next gives stepped (replays.up_to_want h last is taken spent))
        (concluding.quiet _ _ concluding.wanting same sound) failed kept =
        owing.wanting text (report_before h) (last_entry h) gives (begun last text first (next ∷ rest) h is stepped) (all_reported h out out' taken) same
