-- What came of a fetch.
--
-- Where the course led, the fetch is open behind the events, or the last one decided, or was foreign (`IsAt`). Where it
-- isn't over it is open, so all is written (`all_written`). Where it is over, the last event decided or was foreign
-- (`over_ends`). Where the sink or memory failed it is one of the three, and all was taken but a last part of what the
-- last event brought (`some_written`).
use Rattle.std.{proofs.{Common.{◌≡◌, ◌≢◌, ℕ, ◌+◌, List, [], ◌∷◌, ◌++◌, length, Bool, true, false, Option, Some, None, refl, ap, sym, ◌∙◌, subst}, lemmas.List.{append-nil}}, specs.{Prelude.{is_some, if◌then◌else◌}, Option.{option_or}}}
use Rattle.hc_text.proofs.Basics.{nothing_first as nothing_more}
use Rattle.hc_effects.proofs.Vocabulary.{Act, Limits, History, act}
use Rattle.hc_io.specs.{Sink.{Takes}, Source.{Gives}}
use Rattle.hc_sched.specs.{declared.schedule.{Ended.{Ended}, Timed.{Timed}}, Schedule.{events_of}}
use Rattle.hc_sched.specs.declared.schedule.Ended.TheVariants as course
use Rattle.hc_driver.specs.Courses as courses
use Rattle.hc_driver.specs.{Courses.{Goes, TakesThenPrefix, text_of, text_before, last_text}, Endings.{How, Wholly, UpToEnd, UpToLast, UpToWant, Ends, IsSteppedAtOnce, events_from}}
use Rattle.hc_driver.specs.Endings as endings
use Rattle.hc_effects.proofs.Basics.{true_false}
use Rattle.hc_core.specs.Steps.{limits_in}
use Rattle.hc_store.specs.declared.backend.Backend.{Ghosts}
use Rattle.hc_fetch.specs.{declared.{ended.FetchEnded.{FetchEnded}, fetching.Fetching.{Fetching}, plan.FetchPlan.{FetchPlan}}, Bounds.{IsPlan}, Deciding.{by_failure, by_head, by_heads, by_other, fits, decided_by, is_undecided}, Endings.{events_in, IsFetched, WritesAll, WritesSome, IsWholeBody, Fetches, ended_as}, Fetches.{ended_with, is_done_by}, Gathering.{written_of, written_before, written_last}, Heads.{Head, heads_in, first_in, first_head}, Steps.{StandsForFetch, Reports}}
use Rattle.hc_fetch.specs.declared.ended.FetchEnded.TheVariants as ended
use Rattle.hc_fetch.specs.Endings as fetches
use Rattle.hc_laws.proofs.FromNothing.{begins_well}
use Rattle.hc_fetch.proofs.{Followed.{IsAt, at_open, at_decision, at_foreign, followed, last_is, all_joined, last_joined, over}, Shows.{was_undecided}, Whole.{writes_all_of_it}}

-- AT DONE

whole_body : (limits : Limits) (plan : FetchPlan) (f : History) → IsPlan plan → IsFetched limits plan f → is_undecided plan f ≡ true → (q : FetchEnded) →
    ended_with f ≡ q → IsWholeBody plan f q
whole_body limits plan f is_plan is_fetched undecided (ended.Done total) is = λ head shown.
    writes_all_of_it limits plan f total is_plan
    (record { begins = begins_well limits; run = is_fetched.run; undecided_before = was_undecided plan f undecided }) is_fetched.own undecided is head shown
whole_body limits plan f is_plan is_fetched undecided q is = tt

-- WHAT THE SINK TOOK

front_of : (out out' : Option (List ℕ)) (f : History) → written_before f ++ written_last f ≡ written_of f → Takes out out' (written_of f) →
    TakesThenPrefix out out' (written_before f) (written_last f)
front_of out out' f joined takes = record {
  part = written_last f;
  rest = [];
  whole = append-nil (written_last f);
  takes = subst (Takes out out') (sym joined) takes;
}

all_taken : (out out' : Option (List ℕ)) (h : courses.History) (text : List ℕ) → text_of h ≡ text → text_before h ≡ text →
    TakesThenPrefix out out' (text_before h) (last_text h) → Takes out out' text
all_taken out out' h text is before took =
    let none : last_text h ≡ [] = empty (text_before h) (last_text h) (sym (last_joined h) ∙ (is ∙ sym before)) in
    let part : took.part ≡ [] = nothing_more took.part took.rest (took.whole ∙ none) in
    subst (Takes out out') (ap (λ (l : List ℕ). text_before h ++ l) part ∙ (append-nil (text_before h) ∙ before)) took.takes
  where
    tail_is : (a b : ℕ) (xs ys : List ℕ) → a ∷ xs ≡ b ∷ ys → xs ≡ ys
    tail_is a b xs ys is = cc

    empty : (xs ys : List ℕ) → xs ++ ys ≡ xs → ys ≡ []
    empty [] ys is = is
    empty (x ∷ xs) ys is = empty xs ys (tail_is x x (xs ++ ys) xs is)

-- HOW IT ENDS

pub no_wire : {Went : How → List Timed → Type 0} {moment : ℕ} {left left' : Option (List ℕ)} (e : Ended) → Ends Went moment left left' e →
    e ≡ course.WireFailed → ⊥
no_wire _ (endings.done text items gives spells went) is = let no : course.Done ≡ course.WireFailed = is in cc
no_wire _ (endings.over text first rest gives at_once went) is = let no : course.Done ≡ course.WireFailed = is in cc
no_wire _ (endings.refused reach text r read refused went) is = let no : course.Refused r ≡ course.WireFailed = is in cc
no_wire _ (endings.unreadable text gives unrefused went) is = let no : course.SourceFailed ≡ course.WireFailed = is in cc
no_wire _ (endings.unwritten text first rest gives at_once went) is = let no : course.SinkFailed ≡ course.WireFailed = is in cc
no_wire _ (endings.wanting text first rest gives at_once went) is = let no : course.NoMemory ≡ course.WireFailed = is in cc
no_wire _ (endings.wanting_answer text first rest next gives at_once went) is = let no : course.NoMemory ≡ course.WireFailed = is in cc

pub source_back : (e : Ended) → ended_as e ≡ ended.SourceFailed → e ≡ course.SourceFailed
source_back course.SourceFailed is = refl
source_back course.Done is = absurd (let no : ended.NoMemory ≡ ended.SourceFailed = is in cc)
source_back (course.Refused r) is = absurd (let no : ended.Refused r ≡ ended.SourceFailed = is in cc)
source_back course.SinkFailed is = absurd (let no : ended.SinkFailed ≡ ended.SourceFailed = is in cc)
source_back course.WireFailed is = absurd (let no : ended.NoMemory ≡ ended.SourceFailed = is in cc)
source_back course.NoMemory is = absurd (let no : ended.NoMemory ≡ ended.SourceFailed = is in cc)

pub sink_back : (e : Ended) → ended_as e ≡ ended.SinkFailed → e ≡ course.SinkFailed
sink_back course.SinkFailed is = refl
sink_back course.Done is = absurd (let no : ended.NoMemory ≡ ended.SinkFailed = is in cc)
sink_back (course.Refused r) is = absurd (let no : ended.Refused r ≡ ended.SinkFailed = is in cc)
sink_back course.SourceFailed is = absurd (let no : ended.SourceFailed ≡ ended.SinkFailed = is in cc)
sink_back course.WireFailed is = absurd (let no : ended.NoMemory ≡ ended.SinkFailed = is in cc)
sink_back course.NoMemory is = absurd (let no : ended.NoMemory ≡ ended.SinkFailed = is in cc)

abbrev pub unspent : {B : Type 0} {g : Ghosts B} → Fetching B g → Fetching B g → Type 0
unspent s u = Unit {0}

module _ {B : Type 0} {g : Ghosts B} (limits : Limits) (plan : FetchPlan) (is_plan : IsPlan plan) (s u : Fetching B g) (new : StandsForFetch s [])
    (plan_is : s.plan ≡ plan) (limits_is : limits_in s.cache ≡ limits) (left left' out out' : Option (List ℕ)) where
  abbrev pub Went : How → List Timed → Type 0
  Went = Goes Reports over unspent 0 s u out out'

  -- the fetch is open behind all these events
  record IsOpenBehind (v : Fetching B g) (events : List Timed) : Type 0 where
    f : History
    stand : StandsForFetch v f
    writes : WritesAll limits plan events f out out'
    joined : written_before f ++ written_last f ≡ written_of f

  open_behind : (v : Fetching B g) (events : List Timed) (h : courses.History) → courses.events_in h ≡ events → IsAt limits plan v h → over v ≡ false →
      Takes out out' (text_of h) → IsOpenBehind v events
  open_behind v events h are (at_open f is_fetched events_are text_is before_is stand v_plan v_limits) off taken = record {
    f = f;
    stand = stand;
    writes = record {
      is_fetched = is_fetched;
      undecided = subst (λ (p : FetchPlan). is_undecided p f ≡ true) v_plan stand.so_far.undecided;
      events_are = events_are ∙ are;
      taken = subst (Takes out out') text_is taken;
    };
    joined = all_joined h f text_is before_is;
  }
  open_behind v events h are (at_decision e f by is_fetched events_are text_is before_is undecided decides decided) off taken =
      absurd (true_false (sym (ap is_some decided) ∙ off))
  open_behind v events h are (at_foreign f next is_fetched undecided joined events_are text_is before_is foreign decided) off taken =
      absurd (true_false (sym (ap is_some decided) ∙ off))

  all_written : (events : List Timed) → Went Wholly events → IsOpenBehind u events
  all_written events (courses.wholly h are leads off taken) = open_behind u events h are (followed limits plan s u h new plan_is limits_is leads) off taken

  -- IT IS OVER

  over_ends : (text : List ℕ) (first rest : List Timed) (result : FetchEnded) → ((by : FetchEnded) → u.decided ≡ Some by → result ≡ by) →
      Gives left left' text → IsSteppedAtOnce 0 text first rest
      → (h : courses.History) → courses.events_in h ≡ first → over u ≡ true → Takes out out' (text_of h) → IsAt limits plan u h →
      Fetches limits plan left left' out out' result
  over_ends text first rest result by_decision gives at_once h are on taken (at_open f is_fetched events_are text_is before_is stand u_plan u_limits) =
      absurd (true_false (sym on ∙ ap is_some stand.is_open))
  over_ends text first rest result by_decision gives at_once h are on taken
      (at_decision e f by is_fetched events_are text_is before_is undecided decides decided) =
      let same : result ≡ by = by_decision by decided in
      fetches.decided text first rest e f gives at_once is_fetched (events_are ∙ are) undecided (decides ∙ ap (λ (z : FetchEnded). Some z) (sym same))
      (subst (Takes out out') text_is taken)
  over_ends text first rest result by_decision gives at_once h are on taken
      (at_foreign f next is_fetched undecided joined events_are text_is before_is foreign decided) =
      let same : result ≡ ended.Foreign (length f + 1) = by_decision (ended.Foreign (length f + 1)) decided in
      let writes : WritesAll limits plan (events_in f) f out out' =
      record { is_fetched = is_fetched; undecided = undecided; events_are = refl; taken = subst (Takes out out') text_is taken } in
      let stepped : IsSteppedAtOnce 0 text (events_in f ++ next ∷ []) rest =
      subst (λ (l : List Timed). IsSteppedAtOnce 0 text l rest) (sym (events_are ∙ are)) at_once in
      subst (Fetches limits plan left left' out out') (sym same) (fetches.foreign text (events_in f) rest next f gives stepped foreign writes)

  up_to_end : (text : List ℕ) (first rest : List Timed) (result : FetchEnded) → ((by : FetchEnded) → u.decided ≡ Some by → result ≡ by) →
      Gives left left' text → IsSteppedAtOnce 0 text first rest
      → Went UpToEnd first → Fetches limits plan left left' out out' result
  up_to_end text first rest result by_decision gives at_once (courses.up_to_end h are leads on taken) =
      over_ends text first rest result by_decision gives at_once h are on taken (followed limits plan s u h new plan_is limits_is leads)

  pub done_ends : (e : Ended) (result : FetchEnded) → ((by : FetchEnded) → u.decided ≡ Some by → result ≡ by) →
      ((f : History) → StandsForFetch u f → result ≡ ended_with f)
      → Ends Went 0 left left' e → e ≡ course.Done → Fetches limits plan left left' out out' result
  done_ends _ result by_decision by_end (endings.done text items gives spells went) is =
      let q = all_written (events_of 0 items) went in
      let same : result ≡ ended_with q.f = by_end q.f q.stand in
      fetches.at_end text items q.f gives spells q.writes (sym same)
      (subst (IsWholeBody plan q.f) (sym same) (whole_body limits plan q.f is_plan q.writes.is_fetched q.writes.undecided (ended_with q.f) refl))
  done_ends _ result by_decision by_end (endings.over text first rest gives at_once went) is = up_to_end text first rest result by_decision gives at_once went
  done_ends _ result by_decision by_end (endings.refused reach text r read refused went) is = absurd (let no : course.Refused r ≡ course.Done = is in cc)
  done_ends _ result by_decision by_end (endings.unreadable text gives unrefused went) is = absurd (let no : course.SourceFailed ≡ course.Done = is in cc)
  done_ends _ result by_decision by_end (endings.unwritten text first rest gives at_once went) is = absurd (let no : course.SinkFailed ≡ course.Done = is in cc)
  done_ends _ result by_decision by_end (endings.wanting text first rest gives at_once went) is = absurd (let no : course.NoMemory ≡ course.Done = is in cc)
  done_ends _ result by_decision by_end (endings.wanting_answer text first rest next gives at_once went) is =
      absurd (let no : course.NoMemory ≡ course.Done = is in cc)

  -- IT IS CUT OFF

  some_written : (v : Fetching B g) (events : List Timed) (h : courses.History) → courses.events_in h ≡ events → IsAt limits plan v h →
      TakesThenPrefix out out' (text_before h) (last_text h) → WritesSome limits plan events out out'
  some_written v events h are (at_open f is_fetched events_are text_is before_is stand v_plan v_limits) took = record {
    f = f;
    is_fetched = is_fetched;
    undecided_before = was_undecided plan f (subst (λ (p : FetchPlan). is_undecided p f ≡ true) v_plan stand.so_far.undecided);
    events_are = fetches.all (events_are ∙ are);
    taken = subst (λ (l : List ℕ). TakesThenPrefix out out' l (written_last f)) before_is
        (subst (TakesThenPrefix out out' (text_before h)) (last_is h f text_is before_is) took);
  }
  some_written v events h are (at_decision e f by is_fetched events_are text_is before_is undecided decides decided) took = record {
    f = e ∷ f;
    is_fetched = is_fetched;
    undecided_before = undecided;
    events_are = fetches.all (events_are ∙ are);
    taken = subst (λ (l : List ℕ). TakesThenPrefix out out' l (written_last (e ∷ f))) before_is
        (subst (TakesThenPrefix out out' (text_before h)) (last_is h (e ∷ f) text_is before_is) took);
  }
  some_written v events h are (at_foreign f next is_fetched undecided joined events_are text_is before_is foreign decided) took = record {
    f = f;
    is_fetched = is_fetched;
    undecided_before = was_undecided plan f undecided;
    events_are = fetches.before_foreign next foreign (events_are ∙ are);
    taken = front_of out out' f joined (all_taken out out' h (written_of f) text_is before_is took);
  }

  up_to_last : (events : List Timed) → Went UpToLast events → WritesSome limits plan events out out'
  up_to_last events (courses.up_to_last h are leads took) = some_written u events h are (followed limits plan s u h new plan_is limits_is leads) took

  up_to_want : (events : List Timed) → Went UpToWant events → WritesSome limits plan events out out'
  up_to_want events (courses.up_to_want h last are leads off taken spent) =
      let q = open_behind last events h are (followed limits plan s last h new plan_is limits_is leads) off taken in
      record {
        f = q.f;
        is_fetched = q.writes.is_fetched;
        undecided_before = was_undecided plan q.f q.writes.undecided;
        events_are = fetches.all q.writes.events_are;
        taken = front_of out out' q.f q.joined q.writes.taken;
      }

  pub cut_ends : (e : Ended) → Ends Went 0 left left' e → e ≢ course.Done → Fetches limits plan left left' out out' (ended_as e)
  cut_ends _ (endings.done text items gives spells went) off = absurd (off refl)
  cut_ends _ (endings.over text first rest gives at_once went) off = absurd (off refl)
  cut_ends _ (endings.refused reach text r read refused went) off = let q = all_written (events_from 0 text) went in
      fetches.refused reach text r q.f read refused q.writes
  cut_ends _ (endings.unreadable text gives unrefused went) off = let q = all_written (events_from 0 text) went in
      fetches.unreadable text q.f gives unrefused q.writes
  cut_ends _ (endings.unwritten text first rest gives at_once went) off = fetches.unwritten text first rest gives at_once (up_to_last first went)
  cut_ends _ (endings.wanting text first rest gives at_once went) off = fetches.wanting text first rest gives at_once (up_to_last first went)
  cut_ends _ (endings.wanting_answer text first rest next gives at_once went) off =
      fetches.wanting text first (next ∷ rest) gives at_once (up_to_want first went)
