-- What is recovered is what a run leaves.
--
-- A cache that begins with contents stands for their beginning, and for each run that leaves them. So it stands behind
-- each for what it was stepped by (`on`), and what it leaves once all have left is left behind each (`left_behind`,
-- `recovered`). The whole events of a text are what its reading brings, whatever stands behind them (`whole_events`).
-- What refuses the record refuses each text that it begins, so no first part of a schedule is refused (`always_taken`).
use Rattle.std.{proofs.{Common.{◌≡◌, ◌≤◌, ◌<◌, ◌^◌, ◌+◌, ℕ, List, [], ◌++◌, length, take, drop, true, Option, Some, None, Result, Err, refl, ap, sym, ◌∙◌, subst, arith, append_assoc}, lemmas.List.{append-nil, length-drop, take-append-drop}}, specs.{Prelude.{Ok, IfErr}, Result.{IsErrAnd}}}
use Rattle.hc_io.specs.Source.{Gives, GivesAll}
use Rattle.hc_io.proofs.Givings.{gives_none}
use Rattle.hc_sched.specs.{declared.schedule.{Refused.{Refused}, Timed.{Timed}}, Reading.{events_in, Progress, beginning, refusal_of}, Laws.{AreTimed}, Schedule.{Item, Spells}}
use Rattle.hc_sched.proofs.OneReading.{is_read, brings_all, brings_items, brings_timed}
use Rattle.hc_driver.specs.Breaks as breaks
use Rattle.hc_driver.specs.Courses as courses
use Rattle.hc_driver.specs.{Breaks.{Breaks, IsReadOut}, Courses.{Goes}, Endings.{How, Wholly, IsRefused, events_from}, Stepping.{never}, declared.stop.Stop.{Stop}}
use Rattle.hc_driver.specs.Stepping as steps
use Rattle.hc_driver.specs.declared.stop.Stop.TheVariants as stop
use Rattle.hc_effects.proofs.Basics.{some_none}
use Rattle.hc_effects.proofs.Vocabulary.{Limits, may_begin, contents_of, History, Contents, IsRun, tables}
use Rattle.hc_store.specs.declared.backend.Backend.{Ghosts}
use Rattle.hc_contents.specs.{Fit.{unfit_of}, PlainContents.{plain_contents}}
use Rattle.hc_contents.specs.declared.contents.Contents as coded
use Rattle.hc_laws.proofs.ReadWhole.{runs_read_whole}
use Rattle.hc_core.specs.{declared.cache.Cache.{Cache}, Steps.{StandsFor, faults_in, limits_in, last_moment, live_in, steps as steps_in}}
use Rattle.hc_replay.specs.{Histories.{run_of}, Replays.{IsReplayed}}
use Rattle.hc_replay.proofs.ReportSteps.{replayed, leads_limits}
use Rattle.hc_image.proofs.Once.{image_once}
use Rattle.hc_image.specs.{Readings.{BeginsWithNone}, Spelled.{SpellsImage}}
use Rattle.hc_saving.specs.{declared.{silent.Silent.{Silent}, recovering.RecoverError.{RecoverError}, begin.BeginError.{BeginError}}, Begins.{BeginsWith, IsUnbegun}, Recovers.{BeginsAs, AreWholeEvents, IsLeftBehind, IsRecovered, Recovers, IsTaken, IsStepped, HasNone, IsUnread, IsUnstepped, of_begin}, Silence.{AnswersSilently, IsSpent}, LeftCaches.{HasLeft}}
use Rattle.hc_saving.specs.Begins as begins
use Rattle.hc_saving.specs.Recovers as recovers
use Rattle.hc_saving.specs.declared.recovering.RecoverError.TheVariants as error
use Rattle.hc_saving.proofs.{Leaves.{nobody_lives}, Opened.{behind, fitting}, Saved.{stepped, moment_of, gives_front}}

-- WHAT IS LEFT

module _ {B : Type 0} {g : Ghosts B} (s u : Cache B g) (contents : Contents) (h : History) (q : HasLeft s u contents h)
    (limits : limits_in u ≡ limits_in s) (nobody : live_in u ≡ 0) (few : steps_in u ≤ steps_in s + 1024) where
  pub left_behind : (found : Contents) → found ≡ contents_of (tables contents q.left) → IsLeftBehind (limits_in s) contents h found
  left_behind found reported = record {
    left = q.left;
    leave = q.leave;
    few = (let number = q.number in omega (arith, number, few));
    reads = runs_read_whole (limits_in u) contents q.left q.stands.begins q.stands.run;
    leaves = record {
      begins = subst (λ (l : Limits). may_begin l contents ≡ true) limits q.stands.begins;
      short = q.stands.short;
      run = subst (λ (l : Limits). IsRun l contents q.left) limits q.stands.run;
      empty = nobody_lives u contents q.left q.stands nobody;
      contents_are = sym reported;
    };
  }

module _ {B : Type 0} {g : Ghosts B} (limits : Limits) (contents : Contents) (s u : Cache B g) (begun : BeginsWith limits contents s)
    (same : limits_in u ≡ limits_in s) (calm : (v : Cache B g) → faults_in v ≡ 0)
    (events : List Timed) (h : steps.History) (is : IsReplayed s u events h) (found : Contents)
    (left : (before : Contents) (earlier : History) → StandsFor u before earlier → IsLeftBehind (limits_in u) before earlier found)
    (fits : found.next_exchange ≤ 2 ^ 60 → may_begin (limits_in u) found ≡ true) where
  on : (before : Contents) (earlier : History) → StandsFor s before earlier → IsLeftBehind limits before (run_of h ++ earlier) found
  on before earlier stands =
      subst (λ (l : Limits). IsLeftBehind l before (run_of h ++ earlier) found) (same ∙ begun.limited)
      (left before (run_of h ++ earlier) (is.goes_on before earlier stands).stands)

  pub recovered : IsRecovered limits contents events found
  recovered = record {
    history = h;
    events_are = is.events_are;
    sound = (let counted = is.counted in let none = calm u in omega (arith, counted, none));
    from_here = subst (λ (l : History). IsLeftBehind limits contents l found) (append-nil (run_of h)) (on contents [] begun.stands);
    goes_on = λ before earlier leaves. on before earlier (behind limits contents s begun.stands begun.serves begun.limited calm before earlier leaves);
    begins = λ few. subst (λ (l : Limits). may_begin l found ≡ true) (same ∙ begun.limited) (fits few);
  }

-- THE WHOLE EVENTS

pub whole_events : (moment : ℕ) (text : List ℕ) → AreWholeEvents moment text (events_from moment text)
whole_events moment text = record {
  read = brings_items moment text;
  all = λ items rest schedule whole.
      let brought = brings_all moment items rest schedule in
      (brought.0, ap (events_in (beginning moment)) (sym whole) ∙ brought.1);
}

-- THE STEPS

module _ (s u : Silent) (moment : ℕ) (left left' : Option (List ℕ)) where
  abbrev Went : How → List Timed → Type 0
  Went = Goes AnswersSilently never IsSpent 0 s u None None

  were_stepped : (events : List Timed) → Went Wholly events → (h : steps.History) × IsReplayed s.cache u.cache events h ×
      (limits_in u.cache ≡ limits_in s.cache)
  were_stepped events (courses.wholly h are leads off taken) =
      let q = stepped 0 s u h leads in
      (q.history, replayed s.cache u.cache events q.history (q.events_are ∙ are) q.leads, leads_limits s.cache u.cache q.history q.leads)

  pub is_stepped : (feed : Progress) → IsReadOut Went moment left left' feed → IsStepped s.cache moment left left' u.cache
  is_stepped feed out =
      let q = were_stepped (events_from moment out.text) out.went in
      record { text = out.text; gives = out.gives; unrefused = out.unrefused; history = q.0; replayed = q.1; limits = q.2 }

  -- what stops it
  abbrev StopsAs : Stop → Type 0
  StopsAs (stop.Refused r) = IsUnstepped moment left left' (error.BadRecord r)
  StopsAs stop.SourceFailed = IsUnstepped moment left left' error.SourceFailed
  StopsAs stop.NoMemory = IsUnstepped moment left left' error.NoMemory
  StopsAs _ = Unit {0}

  pub is_unstepped : (st : Stop) → Breaks Went moment left left' st → StopsAs st
  is_unstepped _ (breaks.over text first rest gives at_once went) = tt
  is_unstepped _ (breaks.refused text r gives at_once went) = recovers.refused text r gives at_once
  is_unstepped _ (breaks.unreadable text gives unrefused went) = recovers.unreadable text gives unrefused
  is_unstepped _ (breaks.unwritten text first rest gives at_once went) = tt
  is_unstepped _ (breaks.wanting text first rest gives at_once went) = recovers.lacking text gives
  is_unstepped _ (breaks.wanting_answer text first rest next gives at_once went) = recovers.lacking text gives

module _ {B : Type 0} {g : Ghosts B} (contents : Contents) (s u : Cache B g) (left left' : Option (List ℕ)) (stands : StandsFor s contents [])
    (q : IsStepped s contents.now left left' u) where
  pub stands_behind : StandsFor u contents (run_of q.history)
  stands_behind = subst (StandsFor u contents) (append-nil (run_of q.history)) (q.replayed.goes_on contents [] stands).stands

  pub still_early : contents.now < 2 ^ 62 → last_moment u < 2 ^ 62
  still_early small =
      let timed : AreTimed contents.now (steps.events_in q.history) =
      subst (AreTimed contents.now) (sym q.replayed.events_are) (brings_timed contents.now q.text small) in
      let early = moment_of q.history contents contents.now small timed in
      let at = stands_behind.moment in
      omega (arith, at, early)

-- THE IMAGE

-- a text that begins with no image is none
pub none_begun : (text : List ℕ) → BeginsWithNone text → HasNone (Some text)
none_begun text none contents is = none contents text [] is (append-nil text)

-- a text that begins with an image and goes on is none
pub none_within : (text : List ℕ) (used : ℕ) (contents : Contents) → SpellsImage (take used text) contents → used < length text → HasNone (Some text)
none_within text used contents front less other is =
    let once = image_once (take used text) text contents other (drop used text) [] front is (take-append-drop used text ∙ sym (append-nil text)) in
    let left = length-drop used text in
    let none : length (drop used text) ≡ 0 = ap length once.1 in
    omega (arith, left, none, less)

-- memory was refused
pub unread_lacking : {T : Type 0} (image : Option (List ℕ)) (result : Result T RecoverError) →
    IsErrAnd result (λ (e : RecoverError). e ≡ error.NoMemory) → IfErr result (IsUnread image)
unread_lacking image (Ok x) is = absurd is
unread_lacking image (Err e) is = subst (IsUnread image) (sym is) recovers.lacking

-- HOW IT ENDS

-- what an error names
named : {T : Type 0} (e : RecoverError) (result : Result T RecoverError) → IsErrAnd result (λ (x : RecoverError). x ≡ e) → result ≡ Err e
named e (Ok x) is = absurd is
named e (Err x) is = ap Err is

module _ (limits : Limits) (image left : Option (List ℕ)) (result : Result coded.Contents RecoverError) where
  pub unread_ends : (e : RecoverError) → IsErrAnd result (λ (x : RecoverError). x ≡ e) → IsUnread image e → Recovers limits image left left result
  unread_ends e is why = subst (Recovers limits image left left) (sym (named e result is)) (by_cause e why)
    where
      by_cause : (e : RecoverError) → IsUnread image e → Recovers limits image left left (Err e)
      by_cause _ (recovers.none has) = recovers.bad_image has refl
      by_cause _ recovers.lacking = recovers.wanting [] (gives_none left)

  pub unbegun_ends : (contents : Contents) (e : BeginError) → BeginsAs image contents → IsErrAnd result (λ (x : RecoverError). x ≡ of_begin e) →
      IsUnbegun limits contents e → Recovers limits image left left result
  unbegun_ends contents e has is why = subst (Recovers limits image left left) (sym (named (of_begin e) result is)) (by_cause e why)
    where
      by_cause : (e : BeginError) → IsUnbegun limits contents e → Recovers limits image left left (Err (of_begin e))
      by_cause _ (begins.refused cause says) = recovers.unfit contents cause has says refl
      by_cause _ begins.lacking = recovers.wanting [] (gives_none left)

  pub unstepped_ends : (left' : Option (List ℕ)) (contents : Contents) (e : RecoverError) → BeginsAs image contents → unfit_of limits contents ≡ None →
      IsErrAnd result (λ (x : RecoverError). x ≡ e) → IsUnstepped contents.now left left' e
      → Recovers limits image left left' result
  unstepped_ends left' contents e has fits is why = subst (Recovers limits image left left') (sym (named e result is)) (by_cause e why)
    where
      by_cause : (e : RecoverError) → IsUnstepped contents.now left left' e → Recovers limits image left left' (Err e)
      by_cause _ (recovers.refused text r gives at_once) = recovers.bad_record contents text r has fits gives at_once
      by_cause _ (recovers.unreadable text gives unrefused) = recovers.unreadable contents text has fits gives unrefused
      by_cause _ (recovers.lacking text gives) = recovers.wanting text gives

  -- memory was refused once all was read
  pub unleft_ends : (left' : Option (List ℕ)) (text : List ℕ) → GivesAll left left' text → IsErrAnd result (λ (x : RecoverError). x ≡ error.NoMemory) →
      Recovers limits image left left' result
  unleft_ends left' text gives is =
      subst (Recovers limits image left left') (sym (named error.NoMemory result is)) (recovers.wanting text (gives_front left left' text gives))

-- it was found
pub found_ends : {B : Type 0} {g : Ghosts B} (limits : Limits) (image left left' : Option (List ℕ)) (contents : Contents) (s u : Cache B g)
    (found : coded.Contents) → BeginsAs image contents → BeginsWith limits contents s → ((v : Cache B g) → faults_in v ≡ 0)
    → (q : IsStepped s contents.now left left' u) →
    ((before : Contents) (earlier : History) → StandsFor u before earlier → IsLeftBehind (limits_in u) before earlier (plain_contents found))
    → (found.next_exchange ≤ 2 ^ 60 → may_begin (limits_in u) (plain_contents found) ≡ true) → Recovers limits image left left' (Ok found)
found_ends limits image left left' contents s u found has begun calm q left_is fits =
    recovers.found contents q.text (events_from contents.now q.text) found has begun.fits q.gives q.unrefused (whole_events contents.now q.text)
    (recovered limits contents s u begun q.limits calm (events_from contents.now q.text) q.history q.replayed (plain_contents found) left_is fits)

-- HOW IT IS TAKEN

begins_once : (image : Option (List ℕ)) (a b : Contents) → BeginsAs image a → BeginsAs image b → a ≡ b
begins_once None a b p q = p ∙ sym q
begins_once (Some image) a b p q = (image_once image image a b [] [] p q refl).0

-- what is refused whatever follows is no first part of a schedule
no_part : (moment : ℕ) (left left' : Option (List ℕ)) (text read more : List ℕ) (r : Refused) (items : List Item) → left ≡ Some text →
    Gives left left' read → IsRefused moment read r → ¬ Spells moment (text ++ more) items
no_part moment left left' text read more r items here gives refuses spells = by_rest left' (subst (λ (l : Option (List ℕ)). Gives l left' read) here gives)
  where
    by_rest : (o : Option (List ℕ)) → Gives (Some text) o read → ⊥
    by_rest None given = given
    by_rest (Some rest) given =
        let whole : read ++ (rest ++ more) ≡ text ++ more = sym (append_assoc read rest more) ∙ ap (λ (l : List ℕ). l ++ more) (sym given) in
        some_none r (sym (ap (refusal_of moment) (sym whole) ∙ refuses (rest ++ more)) ∙ (is_read moment (text ++ more) items spells).0)

pub always_taken : (limits : Limits) (image left left' : Option (List ℕ)) (result : Result coded.Contents RecoverError) →
    Recovers limits image left left' result
    → (contents : Contents) (text more : List ℕ) (items : List Item) → BeginsAs image contents → may_begin limits contents ≡ true → left ≡ Some text →
    Spells contents.now (text ++ more) items → IsTaken result
always_taken limits image left left' _ (recovers.found c t events f is fits gives unrefused whole left_is) contents text more items begins may here spells = tt
always_taken limits image left left' _ (recovers.bad_image none same) contents text more items begins may here spells = none contents begins
always_taken limits image left left' _ (recovers.unfit c why is says same) contents text more items begins may here spells =
    let once = begins_once image c contents is begins in
    some_none why (sym (ap (unfit_of limits) (sym once) ∙ says) ∙ fitting limits contents may)
always_taken limits image left left' _ (recovers.bad_record c t r is fits gives refused) contents text more items begins may here spells =
    let once = begins_once image c contents is begins in
    absurd (no_part contents.now left left' text t more r items here gives (subst (λ (d : Contents). IsRefused d.now t r) once refused.refuses) spells)
always_taken limits image left left' _ (recovers.unreadable c t is fits gives unrefused) contents text more items begins may here spells = tt
always_taken limits image left left' _ (recovers.wanting t gives) contents text more items begins may here spells = tt
