-- What is saved is the image of what a run leaves.
--
-- An event that is answered silently is a step of the cache: so the events that were gone through are a run
-- (`stepped`). A run's last moment is that of its last event (`moment_of`). What is left behind it has an image, with
-- which a store may begin: no more exchanges were opened than events came, and the text that brought them had at least
-- two bytes for each (`is_left`). So what was written is the image of what was left, at each ending.
use Rattle.std.{proofs.{Common.{◌≡◌, ◌≢◌, inl, inr, ◌≤◌, ◌<◌, ◌^◌, ℕ, suc, ◌+◌, ◌-◌, List, [], ◌∷◌, ◌++◌, length, Bool, true, false, Option, Some, None, refl, ap, sym, ◌∙◌, subst, arith}, lemmas.List.{append-nil}}, specs.Prelude.{if◌then◌else◌}}
use Rattle.hc_effects.proofs.Vocabulary.{is_denied, Limits, may_begin, contents_of, History, Contents, no_contents, tables, after, after_accepted, after_denied}
use Rattle.hc_io.specs.{Faults.{HasRisen}, Source.{Gives, GivesAll}}
use Rattle.hc_sched.specs.{declared.schedule.{Ended.{Ended}, Timed.{Timed}}, Laws.{AreTimed}, Schedule.{Item, Spells, events_of}}
use Rattle.hc_sched.specs.declared.schedule.Ended.TheVariants as ended
use Rattle.hc_sched.proofs.OneReading.{is_read, brings_timed}
use Rattle.hc_driver.specs.Courses as courses
use Rattle.hc_driver.specs.{Courses.{Goes}, Endings.{How, Wholly, UpToEnd, Ends}, Stepping.{never}}
use Rattle.hc_driver.specs.Endings as endings
use Rattle.hc_driver.specs.Stepping as steps
use Rattle.hc_driver.proofs.Timings.{timed_back}
use Rattle.hc_laws.proofs.CountedOpenings.{openings_counted}
use Rattle.hc_core.specs.Steps.{StandsFor, Answers, limits_in, last_moment, steps as steps_in}
use Rattle.hc_replay.specs.{Histories.{run_of, failures}, Replays.{IsReplayed}, WholeRuns.{IsWholeRun}}
use Rattle.hc_replay.proofs.ReportSteps.{replayed, leads_limits}
use Rattle.hc_image.specs.{Images.{image_of}, Spelled.{SpellsImage}}
use Rattle.hc_saving.specs.{declared.silent.Silent.{Silent}, Recovers.{IsLeftBehind}, Saves.{IsLeft, IsSaved, Saves, Writes, saved_of}, Silence.{AnswersSilently, IsSpent}}
use Rattle.hc_saving.specs.Saves as saves

-- WHAT IS LEFT

module _ (limits : Limits) (h : History) (found : Contents) (q : IsLeftBehind limits no_contents h found) (few : length h ≤ 2 ^ 59)
    (fits : found.next_exchange ≤ 2 ^ 60 → may_begin limits found ≡ true) (written : may_begin limits found ≡ true → SpellsImage (image_of found) found) where
  reported : found ≡ saved_of q.left
  reported = sym q.leaves.contents_are

  next_few : found.next_exchange ≤ 2 ^ 60
  unfolding contents_of
  next_few =
      let opened : (tables no_contents q.left).opened ≤ no_contents.next_exchange - 1 + length q.left =
      openings_counted limits no_contents q.left q.leaves.begins q.leaves.run in
      let next : found.next_exchange ≡ (tables no_contents q.left).opened + 1 = ap (λ (c : Contents). c.next_exchange) reported in
      let long = q.few in
      omega (arith, opened, next, long, few)

  is_left : IsLeft limits h (image_of found)
  is_left = record {
    left = q.left;
    leave = q.leave;
    whole = record { run = q.leaves.run; reads = q.reads };
    begins = subst (λ (c : Contents). may_begin limits c ≡ true) reported (fits next_few);
    image_is = ap image_of reported;
    spells = subst (SpellsImage (image_of found)) reported (written (fits next_few));
  }

  -- its image is what was written
  pub image_left : (image : List ℕ) → image ≡ image_of found → IsLeft limits h image
  image_left image written = subst (IsLeft limits h) (sym written) is_left

-- WHAT WAS STEPPED

-- these steps of the cache were made
pub record Stepped (s u : Silent) (h : courses.History) : Type 0 where
  pub history : steps.History
  pub leads : steps.Leads (λ a now event acts b. Answers a b now event acts) s.cache history u.cache
  pub events_are : steps.events_in history ≡ courses.events_in h

pub stepped : (n : ℕ) (s u : Silent) (h : courses.History) → courses.Leads AnswersSilently never n s h u → Stepped s u h
stepped n s _ _ courses.nothing = record { history = []; leads = steps.nothing; events_are = refl }
stepped n s u _ (courses.more h e t _ leads off reports) =
    let q = stepped n s t h leads in
    record {
      history = record { timed = e.timed; acts = reports.acts } ∷ q.history;
      leads = steps.more q.history _ t.cache u.cache q.leads reports.answered;
      events_are = ap (λ (l : List Timed). l ++ e.timed ∷ []) q.events_are;
    }

-- the moment behind what was stepped is small
pub moment_of : (h : steps.History) (contents : Contents) (last : ℕ) → contents.now < 2 ^ 62 → AreTimed last (steps.events_in h) →
    (tables contents (run_of h)).moment < 2 ^ 62
unfolding tables after
moment_of [] contents last early timed = early
moment_of (e ∷ h) contents last early timed =
    let back = timed_back last (steps.events_in h) (e.timed ∷ []) timed in
    by_denial (is_denied e.acts) back.1
  where
    by_denial : (b : Bool) → e.timed.now < 2 ^ 62 →
        (if b then after_denied (tables contents (run_of h)) (record { now = e.timed.now; event = e.timed.event; acts = e.acts }) else
        after_accepted (tables contents (run_of h)) (record { now = e.timed.now; event = e.timed.event; acts = e.acts })).moment < 2 ^ 62
    by_denial true small = small
    by_denial false small = small

pub gives_front : (left left' : Option (List ℕ)) (text : List ℕ) → GivesAll left left' text → Gives left left' text
gives_front None left' text g = g
gives_front (Some old) left' text g = rw g.1 (sym g.0 ∙ sym (append-nil text))

run_long : (h : steps.History) → length (run_of h) ≡ length h
run_long [] = refl
run_long (e ∷ h) = ap suc (run_long h)

-- A whole text spells items, whose events were stepped.
pub record GoneThrough (s u : Silent) (left left' : Option (List ℕ)) : Type 0 where
  pub text : List ℕ
  pub items : List Item
  pub gives : GivesAll left left' text
  pub spells : Spells 0 text items
  pub history : steps.History
  pub replayed : IsReplayed s.cache u.cache (events_of 0 items) history
  pub limits : limits_in u.cache ≡ limits_in s.cache
  pub moment : last_moment u.cache < 2 ^ 62
  pub stands : StandsFor u.cache no_contents (run_of history)
  pub count : steps_in u.cache ≡ length (run_of history)

module _ (s u : Silent) (left left' : Option (List ℕ)) (new : StandsFor s.cache no_contents []) (unused : steps_in s.cache ≡ 0) where
  abbrev Went : How → List Timed → Type 0
  Went = Goes AnswersSilently never IsSpent 0 s u None None

  through : (text : List ℕ) (items : List Item) → GivesAll left left' text → Spells 0 text items → Went Wholly (events_of 0 items) → GoneThrough s u left left'
  through text items gives spells (courses.wholly h are leads off taken) =
      let q = stepped 0 s u h leads in
      let events : steps.events_in q.history ≡ events_of 0 items = q.events_are ∙ are in
      let r = replayed s.cache u.cache (events_of 0 items) q.history events q.leads in
      let stands : StandsFor u.cache no_contents (run_of q.history) =
      subst (StandsFor u.cache no_contents) (append-nil (run_of q.history)) (r.goes_on no_contents [] new).stands in
      let timed : AreTimed 0 (steps.events_in q.history) = subst (AreTimed 0) ((is_read 0 text items spells).1 ∙ sym events) (brought_timed text) in
      let early = moment_of q.history no_contents 0 (omega arith) timed in
      let number = r.number in
      let long = run_long q.history in
      record {
        text = text;
        items = items;
        gives = gives;
        spells = spells;
        history = q.history;
        replayed = r;
        limits = leads_limits s.cache u.cache q.history q.leads;
        moment = (let at = stands.moment in omega (arith, at, early));
        stands = stands;
        count = omega (arith, number, long, unused);
      }
    where
      brought_timed : (z : List ℕ) → AreTimed 0 (endings.events_from 0 z)
      brought_timed z = brings_timed 0 z (omega arith)

  -- nobody is over
  never_over : (events : List Timed) → Went UpToEnd events → GoneThrough s u left left'
  never_over events (courses.up_to_end h are leads is_over taken) = absurd (let no : false ≡ true = is_over in cc)

  pub gone_through : (e : Ended) → e ≡ ended.Done → Ends Went 0 left left' e → GoneThrough s u left left'
  gone_through _ is (endings.done text items gives spells went) = through text items gives spells went
  gone_through _ is (endings.over text first rest gives at_once went) = never_over first went
  gone_through _ is (endings.refused reach text r read refused went) = absurd (let no : ended.Refused r ≡ ended.Done = is in cc)
  gone_through _ is (endings.unreadable text gives unrefused went) = absurd (let no : ended.SourceFailed ≡ ended.Done = is in cc)
  gone_through _ is (endings.unwritten text first rest gives at_once went) = absurd (let no : ended.SinkFailed ≡ ended.Done = is in cc)
  gone_through _ is (endings.wanting text first rest gives at_once went) = absurd (let no : ended.NoMemory ≡ ended.Done = is in cc)
  gone_through _ is (endings.wanting_answer text first rest next gives at_once went) = absurd (let no : ended.NoMemory ≡ ended.Done = is in cc)

  -- WHAT CAME OF IT

  -- without an image
  pub not_saved : (limits : Limits) (out : Option (List ℕ)) (e : Ended) → Ends Went 0 left left' e → e ≢ ended.Done → e ≢ ended.SinkFailed →
      Saves limits left left' out out e
  not_saved limits out _ (endings.done text items gives spells went) off calm = absurd (off refl)
  not_saved limits out _ (endings.over text first rest gives at_once went) off calm = absurd (off refl)
  not_saved limits out _ (endings.refused reach text r read refused went) off calm = saves.refused reach text r read refused refl
  not_saved limits out _ (endings.unreadable text gives unrefused went) off calm = saves.unreadable text gives unrefused refl
  not_saved limits out _ (endings.unwritten text first rest gives at_once went) off calm = absurd (calm refl)
  not_saved limits out _ (endings.wanting text first rest gives at_once went) off calm = saves.wanting_early text gives refl
  not_saved limits out _ (endings.wanting_answer text first rest next gives at_once went) off calm = saves.wanting_early text gives refl

  -- and with one
  module _ (q : GoneThrough s u left left') (none : failures q.history ≡ 0) where
    is_saved : (image : List ℕ) → IsLeft (limits_in s.cache) (run_of q.history) image → IsSaved (limits_in s.cache) (events_of 0 q.items) image
    is_saved image is = record {
      history = q.history;
      events_are = q.replayed.events_are;
      whole = subst (IsWholeRun (limits_in s.cache) no_contents) (append-nil (run_of q.history)) (q.replayed.goes_on no_contents [] new).whole;
      sound = none;
      is_left = is;
    }

    pub image_saved : (out out' : Option (List ℕ)) (e : Ended) → Writes (limits_in s.cache) (run_of q.history) out out' e →
        Saves (limits_in s.cache) left left' out out' e
    image_saved out out' _ (saves.all image is takes) = saves.done q.text image q.items q.gives q.spells (is_saved image is) takes
    image_saved out out' _ (saves.part image is takes) = saves.unwritten q.text image q.items q.gives q.spells (is_saved image is) takes
    image_saved out out' _ (saves.short image is takes) = saves.wanting q.text image q.items q.gives q.spells (is_saved image is) takes
    image_saved out out' _ (saves.none same) = rw same (saves.wanting_early q.text (gives_front left left' q.text q.gives) refl)

-- THE CAUSES

-- a count that stays 0 never rises
pub never_risen : HasRisen 0 0 → ⊥
never_risen (inl less) = absurd (omega (arith, less))
never_risen (inr most) = absurd (omega (arith, most))

-- no input is read where the image is written
pub no_source : (limits : Limits) (h : History) (out out' : Option (List ℕ)) (e : Ended) → Writes limits h out out' e → e ≡ ended.SourceFailed → ⊥
no_source limits h out out' _ (saves.all image is takes) same = let no : ended.Done ≡ ended.SourceFailed = same in cc
no_source limits h out out' _ (saves.part image is takes) same = let no : ended.SinkFailed ≡ ended.SourceFailed = same in cc
no_source limits h out out' _ (saves.short image is takes) same = let no : ended.NoMemory ≡ ended.SourceFailed = same in cc
no_source limits h out out' _ (saves.none unwritten) same = let no : ended.NoMemory ≡ ended.SourceFailed = same in cc
