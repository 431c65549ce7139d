-- What comes of a turn, by how far it came.
--
-- The call fits what rested before it, so the log with it is one of the loop's, whose last turn is taken as whole.
-- Where the turn is cut short, each connection has taken a first part of what it is owed behind the whole turn, and
-- what was written is a first part of its record. Where it isn't, the tables behind it are those that the definitions
-- owe, if the store counted no failure.
use Rattle.std.{proofs.{Common.{◌≡◌, ◌⊎◌, ◌≤◌, ◌<◌, ◌^◌, ℕ, ◌+◌, List, [], ◌∷◌, ◌++◌, Bool, true, false, Option, Some, None, refl, ap, sym, ◌∙◌, subst, arith, append_assoc, append-nil, take_all}, lemmas.List.{length-append, take-append-le}}, specs.{Prelude.{length, map, take, max, reverse, find, Result, IfOk, OnErr}, List.{list_all}}}
use Rattle.hc_core.specs.Steps.{steps, faults_in}
use Rattle.hc_io.proofs.Takings.{takes_none}
use Rattle.hc_effects.proofs.Vocabulary.{may_begin, Entry, History, Limits, Tables}
use Rattle.hc_store.specs.declared.backend.Backend.{Ghosts}
use Rattle.hc_sched.specs.Schedule.{timed_text}
use Rattle.hc_wire.specs.{Events.{Stage, Unseen, IsOfOpen, FitsIn, stages_after, got_bytes}, Logs.{Log, Called, Reports, is_numbered, stage_from, with_call}, declared.event.WireEvent.{WireEvent}}
use Rattle.hc_wire.specs.declared.event.WireEvent.TheVariants as event
use Rattle.hc_proxy.specs.declared.proxy.Proxy as loop
use Rattle.hc_proxy.specs.{declared.stop.Stop.{Stop}, Carrying.{acts_in, carried}, Connections.{dials_from, dials_in}, Endings.{SentOn, was_sent}, Handling.{begun}, Invariants.{AreServed, last_event}, Keeping.{Frame, Turn, Begun, KeepsPolled, Goes}, Loops.{Fits, AllFit}, Recorded.{HasSchedule, IsRecorded}, Records.{text_of}, Rows.{Proxy, unused, Setting}, Serving.{IsOfLoop, IsCutShort, IsStill, FinishesTurn, CutsTurn, TurnsTo, TurnStops}, Turns.{so_far, happened, turned, turned_by, behind_all, behind_calls, record_of, timed_of, text_behind}, Underway.{OnWire, IsPolledOn}, Waiting.{waits}}
use Rattle.hc_proxy.proofs.{Fitting.{dialled_all, fits_now}, Folds.{turned_more, fit_more}, Later.{carried_is_same, record_carried}, LetGo.{AreGone, turns_gone, unused_gone}, Marked.{contained_among}, MoreConnections.{dials_more}, MoreDials.{turn_same, turns_same, fits_same, all_fit}, Openings.{StandsKnown, unused_known, turns_know}, Parts.{turn_part}, Recorded.{schedule_of, recorded_of}, SentStill.{sent_still}, ServedTurn.{WellHeld, happened_served}, SkippedSteps.{among}, Stands.{turn_goes, unused_stands}, StepOn.{stands_of, begins_of}, Texts.{record_more}}
use Rattle.hc_proxy.proofs.TurnBegins as begins
use Rattle.hc_peers.proofs.Outcomes.{err-map, if_ok-map}

-- THE RECORD grows

grown : (n : ℕ) (es : List Entry) (h : History) → (more : List ℕ) ×
    (text_behind n (map timed_of (reverse (es ++ h))) ≡ text_behind n (map timed_of (reverse h)) ++ more)
grown n [] h = ([], sym (append-nil (text_behind n (map timed_of (reverse h)))))
grown n (e ∷ es) h =
    let rest = grown n es h in
    let text = timed_text (last_event n (es ++ h)) (timed_of e) in (
      rest.0 ++ text,
      record_more n e (es ++ h) ∙ (ap (λ (z : List ℕ). z ++ text) rest.1 ∙ append_assoc (text_behind n (map timed_of (reverse h))) rest.0 text),
    )

-- THE LOG, with one more call and more dials

module _ (limits : Limits) (c : Setting) (may : may_begin limits c.contents ≡ true) (log : Log) (p : Proxy) (call : Called) (l : IsOfLoop limits c log p)
    (enough : p.tables.opened ≤ length (dials_from c log.dialled)) (fits : Fits limits (dials_from c log.dialled) p call) where
  abbrev ds : List (Option ℕ)
  ds = dials_from c log.dialled

  abbrev q : Proxy
  q = turned limits (dials_from c log.dialled) call p

  behind_here : turned_by limits ds log.calls (unused c) ≡ p
  behind_here = sym l.tables

  enough_behind : (turned_by limits ds log.calls (unused c)).tables.opened ≤ length ds
  enough_behind = subst (λ (r : Proxy). r.tables.opened ≤ length ds) l.tables enough

  module _ (more : List ℕ) (log' : Log) (calls : log'.calls ≡ log.calls ++ call ∷ []) (dialled : log'.dialled ≡ log.dialled ++ more) where
    abbrev later : List (Option ℕ)
    later = dials_from c log.dialled ++ map Some more

    dials_are : dials_from c log'.dialled ≡ later
    dials_are = ap (dials_from c) dialled ∙ dials_more c log.dialled more

    behind_same : turned_by limits later log.calls (unused c) ≡ p
    behind_same = turns_same limits ds (map Some more) log.calls (unused c) (unused_stands limits c may) enough_behind ∙ behind_here

    pub tables_on : behind_all limits c log' ≡ q
    tables_on =
        ap (λ ks. turned_by limits ks log'.calls (unused c)) dials_are
        ∙ (ap (λ cs. turned_by limits later cs (unused c)) calls
        ∙ (turned_more limits later log.calls call (unused c)
        ∙ (ap (turned limits later call) behind_same ∙ turn_same limits ds (map Some more) call p enough)))

    -- the turns before are those of the log as it was
    pub before_on : behind_calls limits c log' (length log.calls) ≡ p
    before_on =
        ap (λ ks. turned_by limits ks (take (length log.calls) log'.calls) (unused c)) dials_are
        ∙ (ap (λ cs. turned_by limits later cs (unused c))
        (ap (take (length log.calls)) calls ∙
        (take-append-le (length log.calls) log.calls (call ∷ []) (omega arith) ∙ take_all (length log.calls) log.calls (omega arith)))
        ∙ behind_same)

    pub fit_on : AllFit limits (dials_from c log'.dialled) (unused c) log'.calls
    fit_on =
        subst (λ ks. AllFit limits ks (unused c) log'.calls) (sym dials_are)
        (subst (AllFit limits later (unused c)) (sym calls)
        (fit_more limits later log.calls call (unused c)
        (all_fit limits ds (map Some more) log.calls (unused c) (unused_stands limits c may) enough_behind l.fit)
        (subst (λ (r : Proxy). Fits limits later r call) (sym behind_same) (fits_same limits ds (map Some more) call p enough fits))))

-- BETWEEN TURNS

module _ {B : Type 0} {g : Ghosts B} (n : ℕ) (f : Frame) (x : loop.Proxy B g) (p : Proxy) (log : Log) (reported : Option Log) (stages : ℕ → Stage)
    (s : IsStill n f x p log reported stages) where
  -- the store may have begun so
  may_so : may_begin f.limits f.setting.contents ≡ true
  may_so = subst (λ (d : Setting). may_begin f.limits d.contents ≡ true) s.rests.cache.setting (begins_of f x p s.rests.cache)

  -- each exchange has its place among the dials
  dials_so_far : dials_in p log ≡ dials_from f.setting log.dialled
  dials_so_far = ap (λ (d : Setting). dials_from d log.dialled) s.rests.cache.setting

  places_so : length (dials_from f.setting log.dialled) ≡ p.tables.opened
  places_so = ap length (sym dials_so_far) ∙ s.rests.opened

  -- what is written is the record of the turns before
  written_so : f.written ≡ record_of p
  written_so = sym (s.rests.cache.text ∙ (ap (λ (z : List ℕ). f.written ++ z) s.written ∙ append-nil f.written))

  -- and a schedule, as are the events behind it
  schedule_so : HasSchedule p
  schedule_so = schedule_of f x p s.rests.cache

  recorded_so : IsRecorded f.limits f.setting.contents (f.written ++ [])
  recorded_so = subst (IsRecorded f.limits f.setting.contents) (s.rests.cache.text ∙ ap (λ (z : List ℕ). f.written ++ z) s.written)
      (recorded_of f x p s.rests.cache)

  -- the next call fails
  pub stops_before : (reported' : Option Log) → reported' ≡ reported → (out : Option (List ℕ)) → TurnStops f p log x x reported' out out
  stops_before reported' same out = record {
    log' = log;
    reported_is = subst (λ (z : Option Log). (z ≡ None) ⊎ (z ≡ Some log)) (sym same) s.follows.reported_is;
    bound = refl;
    calls = omega arith;
    text = [];
    takes = record { front = []; rest = []; whole = refl; takes = takes_none out };
    recorded = recorded_so;
    goes = λ none l. record {
      is_log = record {
        fit = l.fit;
        sent = subst (λ (r : Proxy). list_all (was_sent (dials_from f.setting log.dialled) r) log.takers ≡ true) l.tables l.sent;
        dialled = let same = places_so in subst (λ (r : Proxy). length (dials_from f.setting log.dialled) ≤ r.tables.opened) l.tables (omega arith);
      };
      turns = length log.calls;
      all_but_one = omega arith;
      written_is = written_so ∙
          ap record_of (l.tables ∙
          sym (ap (λ cs. turned_by f.limits (dials_from f.setting log.dialled) cs (unused f.setting)) (take_all (length log.calls) log.calls (omega arith))));
      schedule = subst HasSchedule (l.tables ∙
          sym (ap (λ cs. turned_by f.limits (dials_from f.setting log.dialled) cs (unused f.setting)) (take_all (length log.calls) log.calls (omega arith))))
          schedule_so;
      text = [];
      takes = record { front = []; rest = []; whole = refl; takes = takes_none out };
      record_is = ap record_of (sym l.tables) ∙ (s.rests.cache.text ∙ ap (λ (z : List ℕ). f.written ++ z) s.written);
    };
  }

-- A TURN

module _ {B : Type 0} {g : Ghosts B} (n : ℕ) (f : Frame) (x : loop.Proxy B g) (p : Proxy) (log : Log) (reported reported' : Option Log)
    (stages stages' : ℕ → Stage) (s : IsStill n f x p log reported stages)
    (wait : Bool) (moment : ℕ) (what : WireEvent) (slice : List ℕ) (of_open : IsOfOpen what stages)
    (stand : (k : ℕ) → stages' k ≡ stages_after what stages k) (fits : FitsIn what 16384) (early : moment < 2 ^ 62) (many : n + 1 ≤ 2 ^ 45)
    (reports : Reports reported reported' (with_call wait moment what (got_bytes what slice))) (waits_so : wait ≡ waits f.limits p) where
  abbrev pub call : Called
  call = begins.call n f x p log reported reported' stages stages' s wait moment what slice of_open stand fits early many

  abbrev pub turn : Turn
  turn = begins.turn n f x p log reported reported' stages stages' s wait moment what slice of_open stand fits early many

  abbrev pub x' : loop.Proxy B g
  x' = begins.x' n f x p log reported reported' stages stages' s wait moment what slice of_open stand fits early many

  abbrev pub log' : Log
  log' = begins.log' n f x p log reported reported' stages stages' s wait moment what slice of_open stand fits early many

  b : Begun turn x' (begun call p) what slice
  b = begins.begins n f x p log reported reported' stages stages' s wait moment what slice of_open stand fits early many

  pub on_wire : OnWire turn log' reported' stages'
  on_wire = begins.on_wire n f x p log reported reported' stages stages' s wait moment what slice of_open stand fits early many reports

  -- the tables that the definitions owe before the acts are carried out
  abbrev pub owed_by : Proxy
  owed_by = happened f.limits (dials_in p log) call (begun call p)

  abbrev now : List (Option ℕ)
  now = dials_from f.setting log.dialled

  now_is : dials_in p log ≡ now
  now_is = dials_so_far n f x p log reported stages s

  may : may_begin f.limits f.setting.contents ≡ true
  may = may_so n f x p log reported stages s

  dials_so : so_far p (dials_in p log) ≡ dials_in p log
  dials_so = dialled_all f x p log s.rests s.follows.apart call refl

  turned_is : turned f.limits now call p ≡ carried owed_by
  unfolding turned
  turned_is = ap (λ ks. turned f.limits ks call p) (sym now_is) ∙ ap (λ ks. carried (happened f.limits ks call (begun call p))) dials_so

  call_fits : Fits f.limits now p call
  call_fits = subst (λ ks. Fits f.limits ks p call) now_is (fits_now f x p log s.rests s.follows.apart call refl
      (begins.few_bytes n f x p log reported reported' stages stages' s wait moment what slice of_open stand fits early many) waits_so)

  -- WHO IS SERVED

  new_there : (k : ℕ) → call.event ≡ event.Accepted k → among k (begun call p).accepted ≡ false
  new_there k is = by_test (among k p.accepted) refl
    where
      unseen : stage_from (find (is_numbered k) log.takers) ≡ Unseen
      unseen = ap stage_from (begins.new_one n f x p log reported reported' stages stages' s wait moment what slice of_open stand fits early many k is)

      by_test : (t : Bool) → among k p.accepted ≡ t → among k p.accepted ≡ false
      by_test false off = off
      by_test true there = absurd ((s.rests.seen k unseen).2 (contained_among k p.accepted there))

  held : WellHeld f.limits (begun call p)
  held = record {
    stands = stands_of turn.frame x' (begun call p) b.keeps.cache;
    holders = b.keeps.consumers;
    last = b.keeps.cache.last_start;
    listed = b.keeps.clients.listed;
    few = b.keeps.clients.few;
    quiet = refl;
  }

  served : (ks : List (Option ℕ)) → AreServed call (happened f.limits ks call (begun call p)) (acts_in (happened f.limits ks call (begun call p)).part)
  served ks = happened_served f.limits ks call (begun call p) new_there held

  -- THE LOG OF THE LOOP GOES ON

  enough : p.tables.opened ≤ length now
  enough = let is = places_so n f x p log reported stages s in omega arith

  written_now : f.written ≡ record_of p
  written_now = written_so n f x p log reported stages s

  module _ (l : IsOfLoop f.limits f.setting log p) where
    known : StandsKnown f.limits p
    known = subst (StandsKnown f.limits) (sym l.tables) (turns_know f.limits now log.calls (unused f.setting) (unused_known f.limits f.setting may))

    gone : AreGone p
    gone = subst AreGone (sym l.tables) (turns_gone f.limits now log.calls (unused f.setting) (unused_gone f.setting))

    sent_turned : list_all (was_sent now (turned f.limits now call p)) log'.takers ≡ true
    sent_turned =
        subst (λ ks. list_all (was_sent ks (turned f.limits ks call p)) log'.takers ≡ true) now_is
        (sent_still f.limits log s.follows.apart p wait moment what (got_bytes what slice) known gone (served (so_far p (dials_in p log)))
        (begins.ended n f x p log reported reported' stages stages' s wait moment what slice of_open stand fits early many)
        (subst (λ ks. list_all (was_sent ks p) log.takers ≡ true) (sym now_is) l.sent) on_wire.follows.apart
        (begins.new_one n f x p log reported reported' stages stages' s wait moment what slice of_open stand fits early many)
        (λ j none. (s.rests.seen j (ap stage_from none)).0))

    -- where it was cut short behind the call, and nothing was written
    pub cut_early : (out : Option (List ℕ)) → IsCutShort f.limits f.setting log' f.written out out
    cut_early out =
        let q = turned f.limits now call p in
        let is : behind_all f.limits f.setting log' ≡ q =
        tables_on f.limits f.setting may log p call l enough call_fits [] log' refl (sym (append-nil log.dialled)) in
        let part = turn_part f.limits now call p in
        let turn_on = turn_goes f.limits now call p known.stands in
        let more = grown p.setting.contents.now q.part p.history in
        record {
          is_log = record {
            fit = fit_on f.limits f.setting may log p call l enough call_fits [] log' refl (sym (append-nil log.dialled));
            sent = subst (λ (r : Proxy). list_all (was_sent now r) log'.takers ≡ true) (sym is) sent_turned;
            dialled =
                let grows : p.tables.opened ≤ q.tables.opened = turn_on.opened in
                let same = places_so n f x p log reported stages s in
                subst (λ (r : Proxy). length now ≤ r.tables.opened) (sym is) (omega arith);
          };
          turns = length log.calls;
          all_but_one = let is = length-append log.calls (call ∷ []) in omega arith;
          written_is = written_now ∙
              ap record_of (sym (before_on f.limits f.setting may log p call l enough call_fits [] log' refl (sym (append-nil log.dialled))));
          schedule = subst HasSchedule (sym (before_on f.limits f.setting may log p call l enough call_fits [] log' refl (sym (append-nil log.dialled))))
              (schedule_so n f x p log reported stages s);
          text = more.0;
          takes = record { front = []; rest = more.0; whole = refl; takes = takes_none out };
          record_is =
              ap record_of is
              ∙ (ap (λ (d : Setting). text_behind d.contents.now (map timed_of (reverse q.history))) turn_on.setting
              ∙ (ap (λ (h : History). text_behind p.setting.contents.now (map timed_of (reverse h))) part.first
              ∙ (more.1 ∙ ap (λ (z : List ℕ). z ++ more.0) (s.rests.cache.text ∙ (ap (λ (z : List ℕ). f.written ++ z) s.written ∙ append-nil f.written)))));
        }

  -- memory was wanting before anything was written
  pub stops_early : (x1 : loop.Proxy B g) (out : Option (List ℕ)) → TurnStops f p log x x1 reported' out out
  stops_early x1 out = record {
    log' = log';
    reported_is = on_wire.follows.reported_is;
    bound = refl;
    calls = let is = length-append log.calls (call ∷ []) in omega arith;
    text = [];
    takes = record { front = []; rest = []; whole = refl; takes = takes_none out };
    recorded = recorded_so n f x p log reported stages s;
    goes = λ none l. cut_early l out;
  }

  -- WHAT HAPPENED, as the cache answered

  module _ (y : loop.Proxy B g) (goes : Goes (KeepsPolled turn) (faults_in x.cache) y owed_by) where
    same_tables : faults_in y.cache ≡ faults_in x.cache → carried goes.q ≡ turned f.limits now call p
    same_tables none = ap carried (goes.same none) ∙ sym turned_is

    -- it began with the same
    contents_same : (carried goes.q).setting ≡ f.setting
    contents_same = (carried_is_same goes.q).setting ∙ goes.keeps.keeps.cache.setting

    sent_as : (l' : Log) → list_all (was_sent (dials_in (carried goes.q) l') (carried goes.q)) l'.takers
        ≡ list_all (was_sent (dials_from f.setting l'.dialled) (carried goes.q)) l'.takers
    sent_as l' = ap (λ (d : Setting). list_all (was_sent (dials_from d l'.dialled) (carried goes.q)) l'.takers) contents_same

    sent_later : (l' : Log) → SentOn (carried goes.q) log' l' → faults_in y.cache ≡ faults_in x.cache → IsOfLoop f.limits f.setting log p →
        list_all (was_sent (dials_from f.setting l'.dialled) (carried goes.q)) l'.takers ≡ true
    sent_later l' on none l =
        sym (sent_as l') ∙ on (sent_as log' ∙ subst (λ (r : Proxy). list_all (was_sent now r) log'.takers ≡ true) (sym (same_tables none)) (sent_turned l))

    calls_on : (l' : Log) → l'.calls ≡ log'.calls → length l'.calls ≡ length log.calls + 1
    calls_on l' same = ap length same ∙ length-append log.calls (call ∷ [])

    -- it was cut short
    pub stops_late : (x1 : loop.Proxy B g) (reported1 : Option Log) (out out' : Option (List ℕ)) → x1.cache ≡ y.cache →
        CutsTurn goes.q log' y reported1 out out' → TurnStops f p log x x1 reported1 out out'
    stops_late x1 reported1 out out' cache c = record {
      log' = c.log';
      reported_is = c.reported_is;
      bound = c.bound;
      calls = let is = calls_on c.log' c.calls in omega arith;
      text = text_of y.record;
      takes = c.takes;
      recorded = subst (IsRecorded f.limits f.setting.contents) goes.keeps.keeps.cache.text (recorded_of turn.frame y goes.q goes.keeps.keeps.cache);
      goes = λ none l. by_loop (ap faults_in (sym cache) ∙ none) l;
    }
      where
        by_loop : faults_in y.cache ≡ faults_in x.cache → IsOfLoop f.limits f.setting log p → IsCutShort f.limits f.setting c.log' f.written out out'
        by_loop none l =
            let is : behind_all f.limits f.setting c.log' ≡ carried goes.q =
            tables_on f.limits f.setting may log p call l enough call_fits c.more c.log' c.calls c.dialled ∙ sym (same_tables none) in
            let same = carried_is_same goes.q in
            let few : length (dials_from f.setting c.log'.dialled) ≤ goes.q.tables.opened =
            subst (λ (d : Setting). length (dials_from d c.log'.dialled) ≤ goes.q.tables.opened) goes.keeps.keeps.cache.setting c.few in
            record {
              is_log = record {
                fit = fit_on f.limits f.setting may log p call l enough call_fits c.more c.log' c.calls c.dialled;
                sent = subst (λ (r : Proxy). list_all (was_sent (dials_from f.setting c.log'.dialled) r) c.log'.takers ≡ true) (sym is)
                    (sent_later c.log' c.sent none l);
                dialled = subst (λ (r : Proxy). length (dials_from f.setting c.log'.dialled) ≤ r.tables.opened) (sym is)
                    (subst (λ (u : Tables). length (dials_from f.setting c.log'.dialled) ≤ u.opened) (sym same.tables) few);
              };
              turns = length log.calls;
              all_but_one = let is = calls_on c.log' c.calls in omega arith;
              written_is = written_now ∙ ap record_of (sym (before_on f.limits f.setting may log p call l enough call_fits c.more c.log' c.calls c.dialled));
              schedule = subst HasSchedule (sym (before_on f.limits f.setting may log p call l enough call_fits c.more c.log' c.calls c.dialled))
                  (schedule_so n f x p log reported stages s);
              text = text_of y.record;
              takes = c.takes;
              record_is = ap record_of is ∙ (record_carried goes.q ∙ goes.keeps.keeps.cache.text);
            }

    -- it was made
    pub turns_on : (x1 : loop.Proxy B g) (reported1 : Option Log) (stages1 : ℕ → Stage) (out out' : Option (List ℕ)) (again : Bool) → x1.cache ≡ y.cache →
        steps y.cache ≤ steps x.cache + 2049
        → FinishesTurn turn goes.q log' y x1 reported1 stages1 out out' again → TurnsTo (n + 1) f p log x x1 reported1 stages1 out out' again
    turns_on x1 reported1 stages1 out out' again cache few e = record {
      f' = record turn.frame { written = turn.frame.written ++ text_of y.record };
      p' = carried goes.q;
      log' = e.log';
      still = record {
        rests = e.rests;
        follows = e.follows;
        within = record {
          bytes = begins.enough n f x p log reported reported' stages stages' s wait moment what slice of_open stand fits early many;
          steps_are = let same = ap steps cache in let le = s.within.steps_are in omega arith;
        };
        written = e.written;
      };
      limits = refl;
      setting = refl;
      text = text_of y.record;
      takes = e.takes;
      written = refl;
      again_is = e.again_is;
      bound = e.bound;
      calls = calls_on e.log' e.calls;
      goes = λ none l. by_loop (ap faults_in (sym cache) ∙ none) l;
    }
      where
        by_loop : faults_in y.cache ≡ faults_in x.cache → IsOfLoop f.limits f.setting log p → IsOfLoop f.limits f.setting e.log' (carried goes.q)
        by_loop none l = record {
          fit = fit_on f.limits f.setting may log p call l enough call_fits e.more e.log' e.calls e.dialled;
          tables = sym (tables_on f.limits f.setting may log p call l enough call_fits e.more e.log' e.calls e.dialled ∙ sym (same_tables none));
          sent = sent_later e.log' e.sent none l;
        }

  -- the turn begins at the greater moment
  module _ (m : ℕ) (greater : m ≡ max x.now moment) (y : loop.Proxy B g)
      (happens : (t : Turn) (q : Proxy) → Begun t (record x { now = m; moved = false }) q what slice →
      Goes (KeepsPolled t) (faults_in x.cache) y (happened t.frame.limits t.dialled t.call q)) where
    abbrev went : Goes (KeepsPolled turn) (faults_in x.cache) y owed_by
    went = happens turn (begun call p) (subst (λ (n : ℕ). Begun turn (record x { now = n; moved = false }) (begun call p) what slice) (sym greater) b)

    pub polled_on : IsPolledOn reported' stages' y
    polled_on = (turn, went.q, log', went.keeps, on_wire)

    module _ (result : Result Bool Stop) (x1 : loop.Proxy B g) (reported1 : Option Log) (stages1 : ℕ → Stage) (out out' : Option (List ℕ))
        (same : x1.cache ≡ y.cache) where
      pub turned_ok : (events : ℕ) → events ≡ n + 1 → steps y.cache ≤ steps x.cache + 2049
          → ((t : Turn) (q : Proxy) (l : Log) → KeepsPolled t y q → OnWire t l reported' stages' →
          IfOk result (FinishesTurn t q l y x1 reported1 stages1 out out'))
          → IfOk result (TurnsTo events f p log x x1 reported1 stages1 out out')
      turned_ok events one few finishes =
          if_ok-map result _ _
          (λ again e. subst (λ (k : ℕ). TurnsTo k f p log x x1 reported1 stages1 out out' again) (sym one)
          (turns_on y went x1 reported1 stages1 out out' again same few e))
          (finishes turn went.q log' went.keeps on_wire)

      pub turned_err : ((t : Turn) (q : Proxy) (l : Log) → KeepsPolled t y q → OnWire t l reported' stages' → OnErr result (CutsTurn q l y reported1 out out'))
          → OnErr result (TurnStops f p log x x1 reported1 out out')
      turned_err cuts = err-map result _ _ (λ cut. stops_late y went x1 reported1 out out' same cut) (cuts turn went.q log' went.keeps on_wire)
