-- What the program did, by how a fetch ended.
--
-- What the words spell is a plan, or none (`is_plan`, `no_plan`, `no_parts`, `no_size`, `no_target`). A fetch ends as
-- schedules do, or what ended it early is told (`stopped_reported`, `stopped_unreported`). Each ending of a fetch is one of
-- what is owed, or begun (`does_fetch`). What a status says of faults it says of the ending that it comes from.
use Rattle.std.{proofs.{Common.{◌≡◌, ◌≢◌, ℕ, ◌+◌, ◌≤◌, ◌^◌, List, [], ◌∷◌, length, Bool, true, false, Option, Some, None, Err, refl, sym, ap, ◌∙◌, subst, arith}, lemmas.Fmt.{decimal_injective}}, specs.{Prelude.{codes, bytes_eq, ◌==◌, if◌then◌else◌}, Option.{option_or}, Result.{IsErrOf}}}
use Rattle.hc_text.proofs.Basics.{not_some as none_some, some_inj}
use Rattle.hc_io.specs.{Faults.{HasRisen}, Sink.{Takes, TakesPrefix}, Source.{GivesAll}, declared.sink.SinkError.{SinkError}}
use Rattle.hc_io.specs.declared.sink.SinkError.TheVariants as sink
use Rattle.hc_text.specs.Numbers.{IsPlain}
use Rattle.hc_target.specs.Targets.{is_target}
use Rattle.hc_sched.specs.{declared.schedule.{Ended.{Ended}, Refused.{Refused}, Timed.{Timed}}, Schedule.{Item, Spells, events_of}}
use Rattle.hc_sched.specs.declared.schedule.Ended.TheVariants as ended
use Rattle.hc_driver.specs.Endings.{Reach, ToEnd, SoFar, IsRead, IsSteppedAtOnce}
use Rattle.hc_model.specs.Entries.{History}
use Rattle.hc_fetch.specs.{declared.{ended.FetchEnded.{FetchEnded}, plan.FetchPlan.{FetchPlan}}, Deciding.{by_failure, by_heads, by_head, by_other, decided_by, fits}, Endings.{IsWholeBody, WritesAll, WritesSome, Fetches}, Fetches.{ended_with, is_done_by}, Gathering.{written_of, written_before, written_last}, Heads.{Head, first_head, first_in, heads_in}}
use Rattle.hc_fetch.specs.declared.ended.FetchEnded.TheVariants as fetched
use Rattle.hc_fetch.specs.Endings as endings
use Rattle.hc_event.specs.declared.act.Act.{Act}
use Rattle.hc_effects.proofs.Vocabulary.{act}
use Rattle.hc_app.specs.{declared.status.Status.{Status}, Concluding.{Concludes}, Failing.{IsStreamStatus}, Fetching.{IsPlanOf, NoPlan, IsFetch, NoFetch, IsWritten, OwesFetch, BeginsFetch, IsStopped, IsEndedAs, ConcludesFetch}, Owing.{Streams, Saying, Does}, Replaying.{store_limits}, Statuses.{stopped_as}, Texts.{fetch_text}}
use Rattle.hc_app.specs.declared.status.Status.TheVariants as status
use Rattle.hc_app.specs.Concluding as concluding
use Rattle.hc_app.specs.Fetching as fetching
use Rattle.hc_app.specs.Owing as owing
use Rattle.hc_app.proofs.Concluded as concluded
use Rattle.hc_app.proofs.{Failed.{all_calm, diag_risen}, Wording.{same_text, other_text}}

-- THE WORDS

-- a text is the plain decimal of one number
pub same_plain : (text : List ℕ) (m n : ℕ) → IsPlain text m → IsPlain text n → m ≡ n
same_plain text m n one two = decimal_injective m n (omega (arith, one.0)) (omega (arith, two.0)) (sym one.1 ∙ two.1)

module _ (word target first second : List ℕ) where
  pub is_plan : (parts size : ℕ) → bytes_eq word (codes "fetch") ≡ true → IsPlain first parts → 1 ≤ parts → parts ≤ 1000 → IsPlain second size →
      1 ≤ size → size ≤ 2 ^ 40 → is_target target ≡ true → IsPlanOf word target first second (record { key = target; parts = parts; size = size })
  is_plan parts size is parts_is some_parts few_parts size_is some_bytes few_bytes on = record {
    word_is = same_text word (codes "fetch") is;
    key_is = refl;
    parts = parts_is;
    size = size_is;
    fits = record { target = on; some_parts = some_parts; parts = few_parts; some_bytes = some_bytes; size = few_bytes };
  }

  pub no_plan : bytes_eq word (codes "fetch") ≡ false → NoPlan word target first second
  no_plan off plan is = other_text word (codes "fetch") off is.word_is

  pub no_parts : ((n : ℕ) → IsPlain first n → 1 ≤ n → n ≤ 1000 → ⊥) → NoPlan word target first second
  no_parts none plan is = none plan.parts is.parts is.fits.some_parts is.fits.parts

  pub no_size : ((n : ℕ) → IsPlain second n → 1 ≤ n → n ≤ 2 ^ 40 → ⊥) → NoPlan word target first second
  no_size none plan is = none plan.size is.size is.fits.some_bytes is.fits.size

  pub no_target : is_target target ≡ false → NoPlan word target first second
  no_target off plan is = let no : true ≡ false = sym is.fits.target ∙ (ap is_target is.key_is ∙ off) in cc

  pub fetch_is : (plan : FetchPlan) → IsPlanOf word target first second plan → IsFetch (word ∷ target ∷ first ∷ second ∷ []) plan
  fetch_is plan is = record { word = word; target = target; first = first; second = second; are = refl; plan_is = is }

  pub fetch_none : NoPlan word target first second → NoFetch (word ∷ target ∷ first ∷ second ∷ [])
  fetch_none none plan is = none plan (same_words is.word is.target is.first is.second is.are is.plan_is)
    where
      same_words : (a b c d : List ℕ) → word ∷ target ∷ first ∷ second ∷ [] ≡ a ∷ b ∷ c ∷ d ∷ [] → IsPlanOf a b c d plan →
          IsPlanOf word target first second plan
      same_words a b c d is planned =
          let one : a ≡ word = cc in
          let two : b ≡ target = cc in
          let three : c ≡ first = cc in
          let four : d ≡ second = cc in
          subst (λ (w : List ℕ). IsPlanOf w target first second plan) one
          (subst (λ (w : List ℕ). IsPlanOf a w first second plan) two
          (subst (λ (w : List ℕ). IsPlanOf a b w second plan) three (subst (λ (w : List ℕ). IsPlanOf a b c w plan) four planned)))

-- HOW IT IS TOLD

-- an ending that isn't any of those of schedules
pub is_stopped : (end : FetchEnded) → ((total : ℕ) → end ≢ fetched.Done total) → ((r : Refused) → end ≢ fetched.Refused r) → end ≢ fetched.SourceFailed →
    end ≢ fetched.SinkFailed → end ≢ fetched.NoMemory → IsStopped end
is_stopped (fetched.Refused r) done refused source sinks memory = refused r refl
is_stopped (fetched.Foreign n) done refused source sinks memory = tt
is_stopped (fetched.Failed c cause) done refused source sinks memory = tt
is_stopped (fetched.Status c status_is) done refused source sinks memory = tt
is_stopped (fetched.Other c r first) done refused source sinks memory = tt
is_stopped (fetched.Done total) done refused source sinks memory = done total refl
is_stopped (fetched.Unfinished written) done refused source sinks memory = tt
is_stopped fetched.SourceFailed done refused source sinks memory = source refl
is_stopped fetched.SinkFailed done refused source sinks memory = sinks refl
is_stopped fetched.NoMemory done refused source sinks memory = memory refl

module _ (diag diag' : Option (List ℕ)) (d d' : ℕ) where
  pub ended_as : (end x : FetchEnded) (e : Ended) (s : Status) → end ≡ x → IsEndedAs x e → Concludes diag diag' d d' e s → ConcludesFetch diag diag' d d' end s
  ended_as end x e s is by concludes = subst (λ (z : FetchEnded). ConcludesFetch diag diag' d d' z s) (sym is) (fetching.as_schedule x e s by concludes)

  pub stopped_reported : (end : FetchEnded) → IsStopped end → Takes diag diag' (fetch_text end) → d' ≡ d →
      ConcludesFetch diag diag' d d' end status.FetchStopped
  stopped_reported end is said calm = fetching.reported end is said calm

  pub stopped_unreported : (end : FetchEnded) → IsStopped end → (error : SinkError) → TakesPrefix diag diag' (fetch_text end) →
      (IsErrOf {T = Unit {0}} (Err error) sink.SinkFailed → HasRisen d d')
      → (IsErrOf {T = Unit {0}} (Err error) sink.NoMemory → d' ≡ d) → ConcludesFetch diag diag' d d' end (stopped_as error)
  stopped_unreported end is sink.SinkFailed front failed calm = fetching.unreported end is front (failed refl)
  stopped_unreported end is sink.NoMemory front failed calm = fetching.wanting_word end is front (calm refl)

  -- WHAT ITS STATUS SAYS

  -- it is that of the schedule's ending
  same_end : (end : FetchEnded) (e : Ended) → IsEndedAs end e →
      ((e ≡ ended.SourceFailed → end ≡ fetched.SourceFailed) × (end ≡ fetched.SourceFailed → e ≡ ended.SourceFailed)) ×
      ((e ≡ ended.SinkFailed → end ≡ fetched.SinkFailed) × (end ≡ fetched.SinkFailed → e ≡ ended.SinkFailed))
  same_end _ _ (fetching.done total) = ((λ is. cc, λ is. cc), (λ is. cc, λ is. cc))
  same_end _ _ (fetching.refused r) = ((λ is. cc, λ is. cc), (λ is. cc, λ is. cc))
  same_end _ _ fetching.unreadable = ((λ is. refl, λ is. refl), (λ is. cc, λ is. cc))
  same_end _ _ fetching.unwritten = ((λ is. cc, λ is. cc), (λ is. refl, λ is. refl))
  same_end _ _ fetching.wanting = ((λ is. cc, λ is. cc), (λ is. cc, λ is. cc))

  module _ (input input' out out' : ℕ) where
    pub stream_status : (end : FetchEnded) (s : Status) → ConcludesFetch diag diag' d d' end s → (end ≡ fetched.SourceFailed → HasRisen input input') →
        (end ≢ fetched.SourceFailed → input' ≡ input)
        → (end ≡ fetched.SinkFailed → HasRisen out out') → (end ≢ fetched.SinkFailed → out' ≡ out) → IsStreamStatus input input' out out' d d' s
    stream_status end s (fetching.as_schedule _ e _ as_is by) source still sinks kept =
        let same = same_end end e as_is in
        concluded.stream_status diag diag' d d' input input' out out' e s by (λ is. source (same.0.0 is)) (λ off. still (λ is. off (same.0.1 is)))
        (λ is. sinks (same.1.0 is)) (λ off. kept (λ is. off (same.1.1 is)))
    stream_status end _ (fetching.reported _ stopped said calm) source still sinks kept =
        all_calm input input' out out' d d' status.FetchStopped (λ is. cc) (λ is. cc) (still (λ is. subst IsStopped is stopped))
        (kept (λ is. subst IsStopped is stopped)) calm
    stream_status end _ (fetching.unreported _ stopped said risen) source still sinks kept =
        diag_risen input input' out out' d d' risen (still (λ is. subst IsStopped is stopped))
    stream_status end _ (fetching.wanting_word _ stopped said calm) source still sinks kept =
        all_calm input input' out out' d d' status.NoMemory (λ is. cc) (λ is. cc) (still (λ is. subst IsStopped is stopped))
        (kept (λ is. subst IsStopped is stopped)) calm

  pub wireless : (end : FetchEnded) (s : Status) → ConcludesFetch diag diag' d d' end s → s ≢ status.WireFailed
  wireless end s (fetching.as_schedule _ e _ as_is by) = concluded.wireless diag diag' d d' e s by
  wireless end _ (fetching.reported _ stopped said calm) = λ is. cc
  wireless end _ (fetching.unreported _ stopped said failed) = λ is. cc
  wireless end _ (fetching.wanting_word _ stopped said calm) = λ is. cc

-- WHAT IT DID

-- what decides is told
failure_stopped : (acts : List Act) (x : FetchEnded) → by_failure acts ≡ Some x → IsStopped x
failure_stopped [] x is = absurd (none_some x is)
failure_stopped (act.Failed c cause ∷ acts) x is = subst IsStopped (some_inj (fetched.Failed c cause) x is) tt
failure_stopped (act.Opened y c need request ∷ acts) x is = failure_stopped acts x is
failure_stopped (act.Ask y ∷ acts) x is = failure_stopped acts x is
failure_stopped (act.Close y ∷ acts) x is = failure_stopped acts x is
failure_stopped (act.Shown c r why status_is fields lo hi ∷ acts) x is = failure_stopped acts x is
failure_stopped (act.Given c y at bytes ∷ acts) x is = failure_stopped acts x is
failure_stopped (act.Ended c ∷ acts) x is = failure_stopped acts x is
failure_stopped (act.Pending c z ∷ acts) x is = failure_stopped acts x is
failure_stopped (act.Denied refusal ∷ acts) x is = failure_stopped acts x is
failure_stopped (act.Lost r kind ∷ acts) x is = failure_stopped acts x is
failure_stopped (act.Evicted r ∷ acts) x is = failure_stopped acts x is

either_stopped : (a b : Option FetchEnded) (x : FetchEnded) → ((y : FetchEnded) → a ≡ Some y → IsStopped y) →
    ((y : FetchEnded) → b ≡ Some y → IsStopped y) → option_or a b ≡ Some x → IsStopped x
either_stopped None b x left right is = right x is
either_stopped (Some y) b x left right is = subst IsStopped (some_inj y x is) (left y refl)

other_stopped : (head : Head) (before : Option Head) (x : FetchEnded) → by_other head before ≡ Some x → IsStopped x
other_stopped head None x is = absurd (none_some x is)
other_stopped head (Some first) x is = by_test (head.r == first.r) is
  where
    by_test : (b : Bool) → (if b then None else Some (fetched.Other head.c head.r first.r)) ≡ Some x → IsStopped x
    by_test true h = absurd (none_some x h)
    by_test false h = subst IsStopped (some_inj (fetched.Other head.c head.r first.r) x h) tt

head_stopped : (plan : FetchPlan) (first : Option Head) (head : Head) (x : FetchEnded) → by_head plan first head ≡ Some x → IsStopped x
head_stopped plan first head x is = by_test (fits plan first head) is
  where
    by_test : (b : Bool) → (if b then by_other head first else Some (fetched.Status head.c head.status)) ≡ Some x → IsStopped x
    by_test true h = other_stopped head first x h
    by_test false h = subst IsStopped (some_inj (fetched.Status head.c head.status) x h) tt

heads_stopped : (plan : FetchPlan) (first : Option Head) (heads : List Head) (x : FetchEnded) → by_heads plan first heads ≡ Some x → IsStopped x
heads_stopped plan first [] x is = absurd (none_some x is)
heads_stopped plan first (head ∷ heads) x is =
    either_stopped (by_head plan first head) (by_heads plan (option_or first (first_in (head ∷ []))) heads) x (head_stopped plan first head)
    (heads_stopped plan (option_or first (first_in (head ∷ []))) heads) is

decided_stopped : (plan : FetchPlan) (f : History) (acts : List Act) (x : FetchEnded) → decided_by plan f acts ≡ Some x → IsStopped x
unfolding decided_by
decided_stopped plan f acts x is =
    either_stopped (by_failure acts) (by_heads plan (first_head f) (heads_in acts)) x (failure_stopped acts)
    (heads_stopped plan (first_head f) (heads_in acts)) is

-- where its input ends it is done, or not
data IsAtEnd : FetchEnded → Type 0 where
  done : (total : ℕ) → IsAtEnd (fetched.Done total)
  unfinished : (written : ℕ) → IsAtEnd (fetched.Unfinished written)

at_end : (f : History) → IsAtEnd (ended_with f)
unfolding ended_with
at_end f = by_test (is_done_by (first_head f) f (length (written_of f)))
  where
    by_test : (b : Bool) → IsAtEnd (if b then fetched.Done (length (written_of f)) else fetched.Unfinished (length (written_of f)))
    by_test true = done (length (written_of f))
    by_test false = unfinished (length (written_of f))

module _ (plan : FetchPlan) (left left' out out' diag diag' : Option (List ℕ)) (o o' d d' : ℕ) where
  abbrev before : Streams
  before = record { left = left; out = out; diag = diag; out_faults = o; diag_faults = d }

  abbrev after : Streams
  after = record { left = left'; out = out'; diag = diag'; out_faults = o'; diag_faults = d' }

  unlike_schedules : (end : FetchEnded) (e : Ended) → IsEndedAs end e → IsStopped end → ⊥
  unlike_schedules _ _ (fetching.done total) stopped = stopped
  unlike_schedules _ _ (fetching.refused r) stopped = stopped
  unlike_schedules _ _ fetching.unreadable stopped = stopped
  unlike_schedules _ _ fetching.unwritten stopped = stopped
  unlike_schedules _ _ fetching.wanting stopped = stopped

  -- what ended it early is told behind what was written
  says : (reach : Reach) (text written : List ℕ) (end : FetchEnded) (st : Status) → IsStopped end → IsRead reach left left' text →
      OwesFetch plan reach text (Saying written (fetch_text end) status.FetchStopped) → Takes out out' written
      → (end ≢ fetched.SinkFailed → o' ≡ o) → ConcludesFetch diag diag' d d' end st → Does (fetching.fetching plan) before after st
  says reach text written end st stopped read owes takes kept (fetching.as_schedule _ e _ as_is by) = absurd (unlike_schedules end e as_is stopped)
  says reach text written end _ stopped read owes takes kept (fetching.reported _ is said calm) = owing.said reach text written _ _ read owes takes said
  says reach text written end _ stopped read owes takes kept (fetching.unreported _ is said risen) =
      owing.unsaid reach text written _ _ read owes takes said (record { failed = risen; sound = kept (λ same. subst IsStopped same stopped) })
  says reach text written end _ stopped read owes takes kept (fetching.wanting_word _ is said calm) =
      owing.wanting_word reach text written _ _ read owes takes said

  written_all : (events : List Timed) (f : History) → WritesAll store_limits plan events f out out' → IsWritten plan events f (written_of f)
  written_all events f w = record { is_fetched = w.is_fetched; undecided = w.undecided; events_are = w.events_are; out_is = refl }

  begun : (text : List ℕ) (first rest : List Timed) (w : WritesSome store_limits plan first out out') → IsSteppedAtOnce 0 text first rest →
      BeginsFetch plan text (written_before w.f) (written_last w.f)
  begun text first rest w stepped = record {
    first = first;
    rest = rest;
    stepped = stepped;
    f = w.f;
    is_fetched = w.is_fetched;
    undecided_before = w.undecided_before;
    events_are = w.events_are;
    out_is = refl;
    next_is = refl;
  }

  does_end : (by : FetchEnded) (text : List ℕ) (items : List Item) (f : History) (st : Status) → GivesAll left left' text → Spells 0 text items →
      WritesAll store_limits plan (events_of 0 items) f out out' → ended_with f ≡ by → IsWholeBody plan f by → IsAtEnd by
      → (by ≢ fetched.SinkFailed → o' ≡ o) → ConcludesFetch diag diag' d d' by st → Does (fetching.fetching plan) before after st
  does_end _ text items f _ gives spells w is whole (done total) kept
      (fetching.as_schedule _ _ _ (fetching.done _) (concluding.quiet _ _ concluding.done same sound)) =
      owing.done ToEnd text (written_of f) gives (fetching.done text (written_of f) items f total spells (written_all _ f w) is whole) w.taken same
  does_end _ text items f _ gives spells w is whole (done total) kept (fetching.reported _ stopped said calm) = absurd stopped
  does_end _ text items f _ gives spells w is whole (done total) kept (fetching.unreported _ stopped said risen) = absurd stopped
  does_end _ text items f _ gives spells w is whole (done total) kept (fetching.wanting_word _ stopped said calm) = absurd stopped
  does_end _ text items f st gives spells w is whole (unfinished n) kept concludes =
      says ToEnd text (written_of f) (fetched.Unfinished n) st tt gives (fetching.unfinished text (written_of f) items f n spells (written_all _ f w) is)
      w.taken kept concludes

  pub does_fetch : (end : FetchEnded) (st : Status) → Fetches store_limits plan left left' out out' end → ConcludesFetch diag diag' d d' end st →
      (end ≡ fetched.SinkFailed → HasRisen o o') → (end ≢ fetched.SinkFailed → o' ≡ o)
      → Does (fetching.fetching plan) before after st
  does_fetch end st (endings.at_end text items f gives spells w is whole) concludes failed kept =
      does_end end text items f st gives spells w is whole (subst IsAtEnd is (at_end f)) kept concludes
  does_fetch end st (endings.decided text first rest e f gives stepped is_fetched are undecided is takes) concludes failed kept =
      says SoFar text (written_of (e ∷ f)) end st (decided_stopped plan f e.acts end is) gives
      (fetching.decided text first rest e f end stepped is_fetched are undecided is) takes kept concludes
  does_fetch _ st (endings.foreign text first rest next f gives stepped is w) concludes failed kept =
      says SoFar text (written_of f) (fetched.Foreign (length f + 1)) st tt gives
      (fetching.foreign text (written_of f) first rest next f stepped is (written_all first f w)) w.taken kept concludes
  does_fetch _ _ (endings.refused reach text r f read refused w)
      (fetching.as_schedule _ _ _ (fetching.refused _) (concluding.quiet _ _ is_quiet same sound)) failed kept = elim is_quiet [ ]
  does_fetch _ _ (endings.refused reach text r f read refused w) (fetching.as_schedule _ _ _ (fetching.refused _) (concluding.reported _ said sound))
      failed kept =
      owing.said reach text (written_of f) _ _ read (fetching.refused reach text (written_of f) f r refused (written_all _ f w)) w.taken said
  does_fetch _ _ (endings.refused reach text r f read refused w) (fetching.as_schedule _ _ _ (fetching.refused _) (concluding.unreported _ said risen))
      failed kept =
      owing.unsaid reach text (written_of f) _ _ read (fetching.refused reach text (written_of f) f r refused (written_all _ f w)) w.taken said
      (record { failed = risen; sound = kept (λ other. cc) })
  does_fetch _ _ (endings.refused reach text r f read refused w) (fetching.as_schedule _ _ _ (fetching.refused _) (concluding.wanting_word _ said sound))
      failed kept =
      owing.wanting_word reach text (written_of f) _ _ read (fetching.refused reach text (written_of f) f r refused (written_all _ f w)) w.taken said
  does_fetch _ _ (endings.refused reach text r f read refused w) (fetching.reported _ stopped said calm) failed kept = absurd stopped
  does_fetch _ _ (endings.refused reach text r f read refused w) (fetching.unreported _ stopped said risen) failed kept = absurd stopped
  does_fetch _ _ (endings.refused reach text r f read refused w) (fetching.wanting_word _ stopped said calm) failed kept = absurd stopped
  does_fetch _ _ (endings.unreadable text f gives unrefused w)
      (fetching.as_schedule _ _ _ fetching.unreadable (concluding.quiet _ _ concluding.unreadable same sound)) failed kept =
      owing.unreadable text (written_of f) gives (record { unrefused = unrefused; f = f; written = written_all _ f w }) w.taken same
  does_fetch _ _ (endings.unreadable text f gives unrefused w) (fetching.reported _ stopped said calm) failed kept = absurd stopped
  does_fetch _ _ (endings.unreadable text f gives unrefused w) (fetching.unreported _ stopped said risen) failed kept = absurd stopped
  does_fetch _ _ (endings.unreadable text f gives unrefused w) (fetching.wanting_word _ stopped said calm) failed kept = absurd stopped
  does_fetch _ _ (endings.unwritten text first rest gives stepped w)
      (fetching.as_schedule _ _ _ fetching.unwritten (concluding.quiet _ _ concluding.unwritten same sound)) failed kept =
      owing.unwritten text (written_before w.f) (written_last w.f) gives (begun text first rest w stepped) w.taken
      (record { failed = failed refl; unsaid = same; sound = sound })
  does_fetch _ _ (endings.unwritten text first rest gives stepped w) (fetching.reported _ stopped said calm) failed kept = absurd stopped
  does_fetch _ _ (endings.unwritten text first rest gives stepped w) (fetching.unreported _ stopped said risen) failed kept = absurd stopped
  does_fetch _ _ (endings.unwritten text first rest gives stepped w) (fetching.wanting_word _ stopped said calm) failed kept = absurd stopped
  does_fetch _ _ (endings.wanting text first rest gives stepped w)
      (fetching.as_schedule _ _ _ fetching.wanting (concluding.quiet _ _ concluding.wanting same sound)) failed kept =
      owing.wanting text (written_before w.f) (written_last w.f) gives (begun text first rest w stepped) w.taken same
  does_fetch _ _ (endings.wanting text first rest gives stepped w) (fetching.reported _ stopped said calm) failed kept = absurd stopped
  does_fetch _ _ (endings.wanting text first rest gives stepped w) (fetching.unreported _ stopped said risen) failed kept = absurd stopped
  does_fetch _ _ (endings.wanting text first rest gives stepped w) (fetching.wanting_word _ stopped said calm) failed kept = absurd stopped
