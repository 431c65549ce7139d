-- How the front answers, from how its cache did.
--
-- The cache answers what is handed on, and stands for its history with that entry more: that is the history of the
-- cache behind the front's event, by definition. What is kept of each consumer is as it is to be (Watchings). So the
-- front stands for one event more (`answers`), whichever way the event was answered: as it came (`passes`,
-- `starts_unwatched`, `polls_unwatched`, `cancels`), without its condition (`starts_denied`, `starts_on`), by an end
-- (`polls_end`), or by a 304 (`polls_on`).
use Rattle.std.{proofs.Common.{◌≡◌, ℕ, Bool, true, false, List, [], ◌∷◌, ◌++◌, map, Option, Some, None, refl, sym, ap, ◌∙◌, subst, arith}, specs.{Prelude.{nat_eq, if◌then◌else◌}, List.{list_any}}}
use Rattle.hc_store.specs.declared.backend.Backend.{Ghosts}
use Rattle.hc_effects.proofs.Vocabulary.{is_denied, leaves_in, Act, Event, Request, Contents, Flaw, flaw_in, failures_in, is_fault, Lawful, Tables, IsOwed, act}
use Rattle.hc_event.specs.declared.event.Event.TheVariants as event
use Rattle.hc_model.specs.Flaws.{flaw_by}
use Rattle.hc_laws.proofs.LawfulRuns.{lawful_in_runs}
use Rattle.hc_core.specs.Steps as core
use Rattle.hc_core.specs.Steps.{StandsFor, Answers}
use Rattle.hc_front.specs.{declared.{front.Front.{Front}, watches.{Watched.{Watched}, Watches.{Watches}}}, Watching.{watched_in, newly, settled, ChangesAt}, Fronts.{Fronted, FrontEntry, is_watched, is_ending, handed, reported, core_entry, front_after}, FrontHistories.{FrontHistory, fronted, core_of}, Steps.{FrontStands, FrontAnswers, limits_in}}
use Rattle.hc_condition.specs.{NotModified.{is_not_modified, fields_of_304, unconditioned}, ShownActs.{act_shown, is_satisfying}}
use Rattle.hc_front.proofs.Watchings.{core_is, watched_live, one_and_others, others_keep, cancels_own, cancels_others, handed_as_it_is, handed_without, unwatched_start, denied_start, start_others, starts_watched, poll_others, poll_none, poll_ends, poll_leaves, poll_satisfies, poll_goes_on}

-- WHAT THE ACTS TELL OF THE STORE

flaw_reported : (request : Request) (a : Act) (acts others : List Act) → flaw_in acts ≡ flaw_in others → flaw_in (act_shown request a ∷ acts) ≡ flaw_in
    (a ∷ others)
flaw_reported request (act.Shown c r why status fields lo hi) acts others same = by_test (is_not_modified request status fields)
  where
    by_test : (b : Bool) → flaw_in
        ((if b then act.Shown c r why 304 (fields_of_304 fields) 0 (Some 0) else act.Shown c r why status fields lo hi) ∷ acts) ≡ flaw_in others
    by_test true = same
    by_test false = same
flaw_reported request (act.Failed c why) acts others same = ap (flaw_by why) same
flaw_reported request (act.Lost r kind) acts others same = refl
flaw_reported request (act.Opened x c need other) acts others same = same
flaw_reported request (act.Ask x) acts others same = same
flaw_reported request (act.Close x) acts others same = same
flaw_reported request (act.Given c x at bytes) acts others same = same
flaw_reported request (act.Ended c) acts others same = same
flaw_reported request (act.Pending c wait) acts others same = same
flaw_reported request (act.Evicted r) acts others same = same
flaw_reported request (act.Denied refusal) acts others same = same

flaws_reported : (request : Request) (acts : List Act) → flaw_in (map (act_shown request) acts) ≡ flaw_in acts
flaws_reported request [] = refl
flaws_reported request (a ∷ acts) = flaw_reported request a (map (act_shown request) acts) acts (flaws_reported request acts)

-- an end behind them tells nothing of it
flaw_ended : (c : ℕ) (acts : List Act) → flaw_in (acts ++ act.Ended c ∷ []) ≡ flaw_in acts
flaw_ended c [] = refl
flaw_ended c (act.Failed d why ∷ acts) = ap (flaw_by why) (flaw_ended c acts)
flaw_ended c (act.Lost r kind ∷ acts) = refl
flaw_ended c (act.Shown d r why status fields lo hi ∷ acts) = flaw_ended c acts
flaw_ended c (act.Opened x d need other ∷ acts) = flaw_ended c acts
flaw_ended c (act.Ask x ∷ acts) = flaw_ended c acts
flaw_ended c (act.Close x ∷ acts) = flaw_ended c acts
flaw_ended c (act.Given d x at bytes ∷ acts) = flaw_ended c acts
flaw_ended c (act.Ended d ∷ acts) = flaw_ended c acts
flaw_ended c (act.Pending d wait ∷ acts) = flaw_ended c acts
flaw_ended c (act.Evicted r ∷ acts) = flaw_ended c acts
flaw_ended c (act.Denied refusal ∷ acts) = flaw_ended c acts

abbrev failing : Flaw → ℕ
failing flaw = if is_fault flaw then 1 else 0

pub failures_reported : (request : Request) (acts : List Act) → failures_in (map (act_shown request) acts) ≡ failures_in acts
failures_reported request acts = ap failing (flaws_reported request acts)

pub failures_ended : (c : ℕ) (acts : List Act) → failures_in (acts ++ act.Ended c ∷ []) ≡ failures_in acts
failures_ended c acts = ap failing (flaw_ended c acts)

-- A STEP

module _ {B : Type 0} {g : Ghosts B} where
  law_of : (s : Front B g) (contents : Contents) (f : FrontHistory) → FrontStands s contents f → Lawful (fronted contents f).core
  law_of s contents f stands =
      subst Lawful (sym (core_is contents f)) (lawful_in_runs (core.limits_in s.cache) contents (core_of contents f) stands.cache.begins stands.cache.run)

  module _ (s u : Front B g) (now : ℕ) (ev asked : Event) (heard : List Act) (answered : Answers s.cache u.cache now asked heard) where
    abbrev e : FrontEntry
    e = record { now = now; event = ev; acts = heard }

    -- this is what is handed on
    unfoldable pub IsHanded : Type 0
    IsHanded = (contents : Contents) (f : FrontHistory) → FrontStands s contents f → handed (fronted contents f) ev ≡ asked

    -- and this is kept of each consumer
    unfoldable pub AreKept : Type 0
    AreKept = (contents : Contents) (f : FrontHistory) → FrontStands s contents f →
        IsOwed (limits_in u) (fronted contents f).core (core_entry (fronted contents f) e)
        → (c : ℕ) → watched_in u.watches c ≡ (front_after (fronted contents f) e).watched c

    module _ (contents : Contents) (f : FrontHistory) (stands : FrontStands s contents f) (hand : handed (fronted contents f) ev ≡ asked) where
      cache_stands : StandsFor u.cache contents (core_entry (fronted contents f) e ∷ core_of contents f)
      cache_stands =
          subst (λ (z : Event). StandsFor u.cache contents (record { now = now; event = z; acts = heard } ∷ core_of contents f)) (sym hand)
          (answered.stands contents (core_of contents f) stands.cache)

      is_owed : IsOwed (limits_in u) (fronted contents f).core (core_entry (fronted contents f) e)
      is_owed = subst (λ (t : Tables). IsOwed (limits_in u) t (core_entry (fronted contents f) e)) (sym (core_is contents f)) cache_stands.run.1

      stands_on : ((c : ℕ) → watched_in u.watches c ≡ (front_after (fronted contents f) e).watched c) → FrontStands u contents (e ∷ f)
      unfolding fronted
      stands_on kept = record { cache = cache_stands; watched = kept }

    pub answers : (acts : List Act) → IsHanded →
        ((contents : Contents) (f : FrontHistory) → FrontStands s contents f → acts ≡ reported (fronted contents f) ev heard) → AreKept
        → failures_in acts ≡ failures_in heard → FrontAnswers s u now ev acts
    unfolding IsHanded AreKept
    answers acts hand reports kept same = record {
      heard = heard;
      limits = answered.limits;
      reported_are = reports;
      stands = λ contents f stands. stands_on contents f stands (hand contents f stands)
          (kept contents f stands (is_owed contents f stands (hand contents f stands)));
      counted = (let counted = answered.counted in omega (arith, counted, same));
      number = answered.number;
    }

  -- WHICH WAY

  -- what is kept stays where a map stays
  stays_kept : (s u : Front B g) → u.watches ≡ s.watches → (contents : Contents) (f : FrontHistory) → FrontStands s contents f → (c : ℕ) → watched_in
      u.watches c ≡ (fronted contents f).watched c
  stays_kept s u same contents f stands c = ap (λ (w : Watches). watched_in w c) same ∙ stands.watched c

  -- one changes
  changes_kept : (s u : Front B g) (d : ℕ) (value : Option Watched) → ChangesAt d value s.watches u.watches → (next : ℕ → Option Watched)
      → (contents : Contents) (f : FrontHistory) → FrontStands s contents f → value ≡ next d →
      ((c : ℕ) → nat_eq c d ≡ false → (fronted contents f).watched c ≡ next c) → (c : ℕ) → watched_in u.watches c ≡ next c
  changes_kept s u d value changes next contents f stands own others =
      one_and_others d (λ c. watched_in u.watches c ≡ next c) (changes.at ∙ own) (λ c far. changes.others c far ∙ (stands.watched c ∙ others c far))

  module _ (s u : Front B g) (now : ℕ) (heard : List Act) where
    -- an event that names no consumer
    pub passes : (ev : Event) → Answers s.cache u.cache now ev heard → u.watches ≡ s.watches
        → ((c : ℕ) (request : Request) → ev ≡ event.Start c request → ⊥) → ((c want : ℕ) → ev ≡ event.Poll c want → ⊥) →
        ((c : ℕ) → ev ≡ event.Cancel c → ⊥) → FrontAnswers s u now ev heard
    unfolding IsHanded AreKept
    passes ev answered same no_start no_poll no_cancel =
        answers s u now ev ev heard answered heard
        (λ contents f stands. as_it_is (fronted contents f) ev refl)
        (λ contents f stands. as_reported (fronted contents f) ev refl)
        (λ contents f stands is c. stays_kept s u same contents f stands c ∙
        others_keep (limits_in u) (fronted contents f) (law_of s contents f stands) (watched_live contents f) now ev heard is no_start no_poll no_cancel c)
        refl
      where
        as_it_is : (t : Fronted) (z : Event) → ev ≡ z → handed t ev ≡ ev
        as_it_is t (event.Start d request) at = absurd (no_start d request at)
        as_it_is t (event.Poll d want) at = absurd (no_poll d want at)
        as_it_is t (event.Cancel d) at = ap (handed t) at ∙ sym at
        as_it_is t (event.Head x response) at = ap (handed t) at ∙ sym at
        as_it_is t (event.Piece x bytes) at = ap (handed t) at ∙ sym at
        as_it_is t (event.End x) at = ap (handed t) at ∙ sym at
        as_it_is t (event.Fault x) at = ap (handed t) at ∙ sym at
        as_it_is t (event.Doom key) at = ap (handed t) at ∙ sym at

        as_reported : (t : Fronted) (z : Event) → ev ≡ z → heard ≡ reported t ev heard
        as_reported t (event.Start d request) at = absurd (no_start d request at)
        as_reported t (event.Poll d want) at = absurd (no_poll d want at)
        as_reported t (event.Cancel d) at = sym (ap (λ (y : Event). reported t y heard) at)
        as_reported t (event.Head x response) at = sym (ap (λ (y : Event). reported t y heard) at)
        as_reported t (event.Piece x bytes) at = sym (ap (λ (y : Event). reported t y heard) at)
        as_reported t (event.End x) at = sym (ap (λ (y : Event). reported t y heard) at)
        as_reported t (event.Fault x) at = sym (ap (λ (y : Event). reported t y heard) at)
        as_reported t (event.Doom key) at = sym (ap (λ (y : Event). reported t y heard) at)

    -- who is cancelled
    pub cancels : (d : ℕ) → Answers s.cache u.cache now (event.Cancel d) heard → ChangesAt d None s.watches u.watches →
        FrontAnswers s u now (event.Cancel d) heard
    unfolding IsHanded AreKept
    cancels d answered changes =
        answers s u now (event.Cancel d) (event.Cancel d) heard answered heard
        (λ contents f stands. refl) (λ contents f stands. refl)
        (λ contents f stands is.
        let law = law_of s contents f stands in
        changes_kept s u d None changes (front_after (fronted contents f) (record { now = now; event = event.Cancel d; acts = heard })).watched contents f
        stands
        (cancels_own (limits_in u) (fronted contents f) law (watched_live contents f) now d heard is)
        (cancels_others (limits_in u) (fronted contents f) law (watched_live contents f) now d heard is))
        refl

    -- STARTS

    module _ (d : ℕ) (request : Request) where
      -- of a request that isn't watched
      pub starts_unwatched : Answers s.cache u.cache now (event.Start d request) heard → u.watches ≡ s.watches
          → ((contents : Contents) (f : FrontHistory) → FrontStands s contents f → is_watched (fronted contents f).core request ≡ false) →
          FrontAnswers s u now (event.Start d request) heard
      unfolding IsHanded AreKept
      starts_unwatched answered same off =
          answers s u now (event.Start d request) (event.Start d request) heard answered heard
          (λ contents f stands. handed_as_it_is (limits_in u) (fronted contents f) (law_of s contents f stands) (watched_live contents f) now d request
          heard (off contents f stands))
          (λ contents f stands. refl)
          (λ contents f stands is c. stays_kept s u same contents f stands c
          ∙ unwatched_start (limits_in u) (fronted contents f) (law_of s contents f stands) (watched_live contents f) now d request heard is
          (off contents f stands) c)
          refl

      -- of one that is, and is denied
      pub starts_denied : Answers s.cache u.cache now (event.Start d (unconditioned request)) heard → u.watches ≡ s.watches → is_denied heard ≡ true
          → ((contents : Contents) (f : FrontHistory) → FrontStands s contents f → is_watched (fronted contents f).core request ≡ true) →
          FrontAnswers s u now (event.Start d request) heard
      unfolding IsHanded AreKept
      starts_denied answered same denied on =
          answers s u now (event.Start d request) (event.Start d (unconditioned request)) heard answered heard
          (λ contents f stands. handed_without (limits_in u) (fronted contents f) (law_of s contents f stands) (watched_live contents f) now d request
          heard (on contents f stands))
          (λ contents f stands. refl)
          (λ contents f stands is c. stays_kept s u same contents f stands c
          ∙ denied_start (limits_in u) (fronted contents f) (law_of s contents f stands) (watched_live contents f) now d request heard is denied c)
          refl

      -- of one that is, and goes on
      pub starts_on : Answers s.cache u.cache now (event.Start d (unconditioned request)) heard → ChangesAt d (Some (newly request)) s.watches u.watches →
          is_denied heard ≡ false
          → ((contents : Contents) (f : FrontHistory) → FrontStands s contents f → is_watched (fronted contents f).core request ≡ true) →
          FrontAnswers s u now (event.Start d request) heard
      unfolding IsHanded AreKept
      starts_on answered changes accepted on =
          answers s u now (event.Start d request) (event.Start d (unconditioned request)) heard answered heard
          (λ contents f stands. handed_without (limits_in u) (fronted contents f) (law_of s contents f stands) (watched_live contents f) now d request
          heard (on contents f stands))
          (λ contents f stands. refl)
          (λ contents f stands is.
          let law = law_of s contents f stands in
          changes_kept s u d (Some (newly request)) changes
          (front_after (fronted contents f) (record { now = now; event = event.Start d request; acts = heard })).watched contents f stands
          (starts_watched (limits_in u) (fronted contents f) law (watched_live contents f) now d request heard is (on contents f stands) accepted)
          (start_others (limits_in u) (fronted contents f) law (watched_live contents f) now d request heard is))
          refl

    -- POLLS

    module _ (d want : ℕ) where
      -- of who isn't under watch
      pub polls_unwatched : Answers s.cache u.cache now (event.Poll d want) heard → u.watches ≡ s.watches → watched_in s.watches d ≡ None →
          FrontAnswers s u now (event.Poll d want) heard
      unfolding IsHanded AreKept is_ending
      polls_unwatched answered same none =
          answers s u now (event.Poll d want) (event.Poll d want) heard answered heard
          (λ contents f stands. rw (nothing contents f stands) refl)
          (λ contents f stands. rw (nothing contents f stands) refl)
          (λ contents f stands is.
          let law = law_of s contents f stands in
          one_and_others d (λ c. watched_in
          u.watches c ≡ (front_after (fronted contents f) (record { now = now; event = event.Poll d want; acts = heard })).watched c)
          (stays_kept s u same contents f stands d ∙
          (nothing contents f stands ∙
          poll_none (limits_in u) (fronted contents f) law (watched_live contents f) now d want heard is (nothing contents f stands)))
          (λ c far. stays_kept s u same contents f stands c ∙
          poll_others (limits_in u) (fronted contents f) law (watched_live contents f) now d want heard is c far))
          refl
        where
          nothing : (contents : Contents) (f : FrontHistory) → FrontStands s contents f → (fronted contents f).watched d ≡ None
          nothing contents f stands = sym (stands.watched d) ∙ none

      ending_is : (b : Bool) → is_ending (watched_in s.watches d) want ≡ b → (contents : Contents) (f : FrontHistory) → FrontStands s contents f →
          is_ending ((fronted contents f).watched d) want ≡ b
      ending_is b is contents f stands = ap (λ (o : Option Watched). is_ending o want) (sym (stands.watched d)) ∙ is

      -- of who was told that its copy holds
      pub polls_end : is_ending (watched_in s.watches d) want ≡ true → Answers s.cache u.cache now (event.Cancel d) heard → ChangesAt d None s.watches u.watches
          → FrontAnswers s u now (event.Poll d want) (heard ++ act.Ended d ∷ [])
      unfolding IsHanded AreKept
      polls_end ending answered changes =
          answers s u now (event.Poll d want) (event.Cancel d) heard answered (heard ++ act.Ended d ∷ [])
          (λ contents f stands. rw (ending_is true ending contents f stands) refl)
          (λ contents f stands. rw (ending_is true ending contents f stands) refl)
          (λ contents f stands is.
          let law = law_of s contents f stands in
          changes_kept s u d None changes (front_after (fronted contents f) (record { now = now; event = event.Poll d want; acts = heard })).watched
          contents f stands
          (poll_ends (limits_in u) (fronted contents f) law (watched_live contents f) now d want heard is (ending_is true ending contents f stands))
          (poll_others (limits_in u) (fronted contents f) law (watched_live contents f) now d want heard is))
          (failures_ended d heard)

      -- of who is under watch
      module _ (w : Watched) (kept : watched_in s.watches d ≡ Some w) (other : is_ending (watched_in s.watches d) want ≡ false)
          (answered : Answers s.cache u.cache now (event.Poll d want) heard) where
        row : (contents : Contents) (f : FrontHistory) → FrontStands s contents f → (fronted contents f).watched d ≡ Some w
        row contents f stands = sym (stands.watched d) ∙ kept

        own_row : (contents : Contents) (f : FrontHistory) (stands : FrontStands s contents f) →
            IsOwed (limits_in u) (fronted contents f).core
            (core_entry (fronted contents f) (record { now = now; event = event.Poll d want; acts = heard })) → (leaves shown : Bool)
            → leaves_in d heard ≡ leaves → list_any (is_satisfying w.request) heard ≡ shown
            → settled leaves shown (Some w) ≡ (front_after (fronted contents f) (record { now = now; event = event.Poll d want; acts = heard })).watched d
        own_row contents f stands is true shown leaves_so shown_so =
            poll_leaves (limits_in u) (fronted contents f) (law_of s contents f stands) (watched_live contents f) now d want heard is leaves_so
        own_row contents f stands is false true leaves_so shown_so =
            poll_satisfies (limits_in u) (fronted contents f) (law_of s contents f stands) (watched_live contents f) now d want heard is w
            (row contents f stands) (ending_is false other contents f stands) leaves_so shown_so
        own_row contents f stands is false false leaves_so shown_so =
            poll_goes_on (limits_in u) (fronted contents f) (law_of s contents f stands) (watched_live contents f) now d want heard is w
            (row contents f stands) (ending_is false other contents f stands) leaves_so shown_so

        pub polls_on : ChangesAt d (settled (leaves_in d heard) (list_any (is_satisfying w.request) heard) (Some w)) s.watches u.watches
            → FrontAnswers s u now (event.Poll d want) (map (act_shown w.request) heard)
        unfolding IsHanded AreKept
        polls_on changes =
            answers s u now (event.Poll d want) (event.Poll d want) heard answered (map (act_shown w.request) heard)
            (λ contents f stands. rw (ending_is false other contents f stands) refl)
            (λ contents f stands. rw (ending_is false other contents f stands, row contents f stands) refl)
            (λ contents f stands is.
            let law = law_of s contents f stands in
            changes_kept s u d (settled (leaves_in d heard) (list_any (is_satisfying w.request) heard) (Some w)) changes
            (front_after (fronted contents f) (record { now = now; event = event.Poll d want; acts = heard })).watched contents f stands
            (own_row contents f stands is (leaves_in d heard) (list_any (is_satisfying w.request) heard) refl refl)
            (poll_others (limits_in u) (fronted contents f) law (watched_live contents f) now d want heard is))
            (failures_reported w.request heard)
