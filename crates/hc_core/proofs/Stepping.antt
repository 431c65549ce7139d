-- The step of a cache: one entry more, denied or accepted.
--
-- A new cache represents the empty run (`stands_beginning`). At an event the rows deny just what the tables deny. If it
-- is denied, the rows stay, and the tables but for moment and count. If not, the tables of the run have the facts. So
-- what the occasion answers is owed, and its rows represent the tables after it (`by_refusal`). `steps_on` joins this
-- for `step`; the promises of `keeps_promises` are the laws of that run.
use Rattle.std.{proofs.{Common.{◌≡◌, ℕ, ◌+◌, ◌≤◌, ◌<◌, ◌^◌, List, [], ◌∷◌, ◌++◌, length, Bool, true, Option, Some, None, refl, ap, sym, ◌∙◌, subst, arith}, Props.{props}, Math.{Bridge.{le_prop}, Logic.{∥∥₁_elim, ∥∥₁_map}, Seq.{drop-append_seam}}, lemmas.Bool.Decides.{nat_tests}}, specs.{Prelude.{nat_eq, ◌||◌, drop, if◌then◌else◌}, HashMap.{get, hash_map_len}}}
use Rattle.hc_text.proofs.Basics.{or_right as or_second}
use Rattle.hc_store.specs.declared.backend.Backend.{Ghosts}
use Rattle.hc_effects.proofs.Vocabulary.{is_denied, Event, Act, Refusal, Limits, refusal_of, answer, accepted_acts, denied_or, may_begin, denial, Entry, History, Contents, no_contents, Flaw, NoFlaw, flaw_in, AreSized, HasFieldsWithinLimits, HasTarget, AreShort, Tables, IsRun, IsOwed, may_stand, may_be, tables, last_start_after, received_in, after, after_accepted, after_denied, IsEventWithinLimits, is_fault, failures_in, act, event}
use Rattle.hc_effects.proofs.Tests.{none_some}
use Rattle.hc_exch.specs.{Exchanges.{table_of, next_of}, Known.{unknown}}
use Rattle.hc_stored.specs.Entries.{shelf_of}
use Rattle.hc_entry.specs.{Keys.{kept_of}, Kept.{nothing}}
use Rattle.hc_laws.proofs.{Barred.{next_tables, denied_tables}, ChainRuns.{chains_in_runs}, GivesStored.{gives_stored_in_runs}, FitsRuns.{few_in_runs}, InRuns.{delivers_in_runs, turns_in_runs, dooms_in_runs, binds_in_runs}, OpenRuns.{open_in_runs}, StoresGrow.{stores_grow_in_runs}, TruthRuns.{truth_in_runs}, Undenied.{undenied}, FromNothing.{begins_well}}
use Rattle.hc_state.specs.{declared.rows.Rows.{Rows}, Stands.{RowsStand, StandsForSome, Answers, gate_of}, Facts.{Facts}, Good.{StandsUntil, StandsAt}}
use Rattle.hc_on_leave.proofs.{Gates.{denies_as}, Sets.{acts_set}}
use Rattle.hc_core.proofs.{Standing.{facts_of_runs, sized_of_any, sized_of_some}, Denying.{stands_denied, stands_begun}}
use Rattle.hc_state.proofs.{Maps.{merely_below}, Words.{more_received, none_received}}
use Rattle.hc_core.specs.{declared.cache.Cache.{Cache}, Steps.{StandsFor, Steps, HasEvictedFew, KeepsPromises}}

-- THE BEGINNING

none_long : AreShort no_contents
none_long r n item there is = none_some item there

pub stands_beginning : {B : Type 0} {g : Ghosts B} (s : Cache B g) → s.last_moment ≡ 0 → s.rows.last_start ≡ 0 → next_of s.rows.exchanges ≡ 1 →
    hash_map_len s.rows.consumers ≡ 0 → ((c : ℕ) → get nat_eq s.rows.consumers c ≡ None) → ((x : ℕ) → table_of s.rows.exchanges x ≡ unknown) →
    ((key : List ℕ) → kept_of s.rows.keys key ≡ nothing) → ((q : ℕ) → (shelf_of s.rows.entries).kept q ≡ None) → (shelf_of s.rows.entries).order ≡ []
    → StandsFor s no_contents []
unfolding tables
stands_beginning s moment last next count none unopened unawaited unkept order = record {
  begins = begins_well (shelf_of s.rows.entries).limits;
  short = none_long;
  run = tt;
  moment = moment;
  rows = stands_begun s.rows last next count none unopened unawaited unkept order;
}

pub begins_good : {B : Type 0} {g : Ghosts B} (r : Rows B g) → r.last_start ≡ 0 → next_of r.exchanges ≡ 1 → hash_map_len r.consumers ≡ 0 →
    ((c : ℕ) → get nat_eq r.consumers c ≡ None) → ((x : ℕ) → table_of r.exchanges x ≡ unknown) → ((key : List ℕ) → kept_of r.keys key ≡ nothing) →
    ((q : ℕ) → (shelf_of r.entries).kept q ≡ None) → (shelf_of r.entries).order ≡ [] → StandsAt r 0 0
unfolding tables
begins_good r last next count none unopened unawaited unkept order = (
  record {
    contents = no_contents;
    h = [];
    begins = begins_well (shelf_of r.entries).limits;
    short = none_long;
    within_limits = tt;
    starts = tt;
    run =
        tt;
    received = none_received 0;
    rows = stands_begun r last next count none unopened unawaited unkept order;
  },
  refl,
)

-- limits are a set: of what is merely there, they tell what is
limits_set : IsSet Limits
limits_set = Prim.hlevel props

-- WHAT COMES

within_limits_fields : (ev : Event) → IsEventWithinLimits ev → HasFieldsWithinLimits ev
within_limits_fields (event.Start c request) within_limits = within_limits.2
within_limits_fields (event.Head x response) within_limits = within_limits
within_limits_fields _ within_limits = tt

has_target : (ev : Event) → IsEventWithinLimits ev → HasTarget ev
has_target (event.Start c request) within_limits = within_limits.1
has_target _ within_limits = tt

-- the number of who started last stays below 2 ^ 62
small_by : (ev : Event) (n : ℕ) → IsEventWithinLimits ev → n < 2 ^ 62 → last_start_after ev n < 2 ^ 62
small_by ev n within_limits small = grind (arith, nat_tests)

small_after : (t : Tables) (e : Entry) → IsEventWithinLimits e.event → t.last_start < 2 ^ 62 → (after t e).last_start < 2 ^ 62
unfolding after
small_after t e within_limits small = by_test (is_denied e.acts)
  where
    by_test : (b : Bool) → (if b then after_denied t e else after_accepted t e).last_start < 2 ^ 62
    by_test b = grind (arith, nat_tests)

small_next : (contents : Contents) (h : History) (e : Entry) → IsEventWithinLimits e.event → (tables contents h).last_start < 2 ^ 62 →
    (tables contents (e ∷ h)).last_start < 2 ^ 62
unfolding tables
small_next contents h e within_limits small = small_after (tables contents h) e within_limits small

-- what a piece has is received
pub received_after : (t : Tables) (e : Entry) → (after t e).received ≡ t.received + received_in e.event
unfolding after
received_after t e = grind (arith, nat_tests)

received_next : (contents : Contents) (h : History) (e : Entry) → (tables contents (e ∷ h)).received ≡ (tables contents h).received + received_in e.event
unfolding tables
received_next contents h e = received_after (tables contents h) e

-- as few bytes, or more
abbrev pub fewer : {B : Type 0} {g : Ghosts B} {r : Rows B g} {m n : ℕ} → StandsForSome r m → m ≤ n → StandsForSome r n
fewer s le = record {
  contents = s.contents;
  h = s.h;
  begins = s.begins;
  short = s.short;
  within_limits = s.within_limits;
  starts = s.starts;
  run = s.run;
  received = (let most = s.received in omega (arith, most, le));
  rows = s.rows;
}

-- a sum that is small has small parts
pub small_part : {n : ℕ} (m : ℕ) → n + m < 2 ^ 61 → n < 2 ^ 61
small_part m fits = omega (arith, fits)

-- until its last moment
pub until_at : {B : Type 0} {g : Ghosts B} (r : Rows B g) (bytes moment : ℕ) → StandsAt r bytes moment → StandsUntil r bytes moment
until_at r bytes moment at = (at.0, (let is = at.1 in omega (arith, is)))

-- WHAT IS OWED

answer_accepted : (limits : Limits) (t : Tables) (now : ℕ) (ev : Event) (flaw : Flaw) → denial t ev ≡ None →
    answer limits t now ev flaw ≡ accepted_acts limits t now ev flaw
unfolding answer
answer_accepted limits t now ev flaw none = ap (λ o. denied_or o (accepted_acts limits t now ev flaw)) none

answer_denied : (limits : Limits) (t : Tables) (now : ℕ) (ev : Event) (flaw : Flaw) (why : Refusal) → denial t ev ≡ Some why →
    answer limits t now ev flaw ≡ act.Denied why ∷ []
unfolding answer
answer_denied limits t now ev flaw why some = ap (λ o. denied_or o (accepted_acts limits t now ev flaw)) some

may_stand_accepted : (limits : Limits) (t : Tables) (e : Entry) (flaw : Flaw) → flaw_in e.acts ≡ flaw → may_be limits t e flaw ≡ true →
    may_stand limits t e ≡ true
unfolding may_stand
may_stand_accepted limits t e flaw shown may = or_second (is_denied e.acts) (may_be limits t e (flaw_in e.acts)) (ap (may_be limits t e) shown ∙ may)

may_stand_denied : (limits : Limits) (t : Tables) (e : Entry) → is_denied e.acts ≡ true → may_stand limits t e ≡ true
unfolding may_stand
may_stand_denied limits t e denied = rw denied refl

-- THE STEP

-- what stands behind what stood there
abbrev pub acts_in : List Act → List Act → List Act
acts_in before out = drop (length before) out

-- a run with one entry more, and the rows that represent it. No failure is told but one that was counted
pub record OneMore {B : Type 0} {g : Ghosts B} (r u : Rows B g) (contents : Contents) (h : History) (acts : List Act) (now : ℕ) (ev : Event) : Type 0 where
  pub begins : may_begin (shelf_of u.entries).limits contents ≡ true
  pub run : IsRun (shelf_of u.entries).limits contents (record { now = now; event = ev; acts = acts } ∷ h)
  pub moment : (tables contents (record { now = now; event = ev; acts = acts } ∷ h)).moment ≡ now
  pub bounded : (shelf_of u.entries).limits ≡ (shelf_of r.entries).limits
  pub counted : (shelf_of r.entries).faults + failures_in acts ≤ (shelf_of u.entries).faults
  pub rows : RowsStand (shelf_of u.entries).limits u (tables contents (record { now = now; event = ev; acts = acts } ∷ h))

-- its acts are those that were appended
pub record Reported {B : Type 0} {g : Ghosts B} (r u : Rows B g) (contents : Contents) (h : History) (before out : List Act) (now : ℕ) (ev : Event) : Type
    0 where
  pub reported : out ≡ before ++ acts_in before out
  pub more : OneMore r u contents h (acts_in before out) now ev

reported_by : {B : Type 0} {g : Ghosts B} (r u : Rows B g) (contents : Contents) (h : History) (before out acts : List Act) (now : ℕ) (ev : Event) →
    out ≡ before ++ acts → OneMore r u contents h acts now ev → Reported r u contents h before out now ev
reported_by r u contents h before out acts now ev reported more =
    let same : acts_in before out ≡ acts = ap (drop (length before)) reported ∙ drop-append_seam before acts in
    record {
      reported = reported ∙ ap (λ (z : List Act). before ++ z) (sym same);
      more =
          subst (λ (z : List Act). OneMore r u contents h z now ev) (sym same) more;
    }

-- a failure that the acts tell was counted
one_counted : (faults after : ℕ) (flaw : Flaw) (b : Bool) → is_fault flaw ≡ b → (is_fault flaw ≡ true → faults < after) → faults ≤ after →
    faults + (if b then 1 else 0) ≤ after
one_counted faults after flaw b is caused never = grind (arith, nat_tests)

module _ {B : Type 0} {g : Ghosts B} (r u : Rows B g) (now : ℕ) (ev : Event) (before out : List Act)
    (denied : (why : Refusal) → refusal_of (gate_of r ev) ev ≡ Some why → (u ≡ r) × (out ≡ before ++ act.Denied why ∷ []))
    (answered : refusal_of (gate_of r ev) ev ≡ None → Answers r u before out now ev) (never : (shelf_of r.entries).faults ≤ (shelf_of u.entries).faults)
    (bytes : ℕ) (small : bytes < 2 ^ 61) where
  module _ (contents : Contents) (h : History) (begun : may_begin (shelf_of r.entries).limits contents ≡ true) (run : IsRun (shelf_of r.entries).limits contents h) (sized : AreSized (tables contents h)) (rows : RowsStand (shelf_of r.entries).limits r (tables contents h)) (in_time : (tables contents h).moment ≤ now) where
    abbrev t : Tables
    t = tables contents h

    abbrev with_acts : List Act → Entry
    with_acts acts = record { now = now; event = ev; acts = acts }

    facts : Facts (shelf_of r.entries).limits t
    facts = facts_of_runs (shelf_of r.entries).limits contents h begun run sized

    -- whatever was owed, the rows represent it
    stands_with : (acts : List Act) (after : Tables) → after ≡ tables contents (with_acts acts ∷ h) → after.moment ≡ now
        → IsOwed (shelf_of r.entries).limits t (with_acts acts) → (shelf_of r.entries).faults + failures_in acts ≤ (shelf_of u.entries).faults →
        (shelf_of u.entries).limits ≡ (shelf_of r.entries).limits → RowsStand (shelf_of r.entries).limits u after → OneMore r u contents h acts now ev
    stands_with acts after is now_is owed counts bounded stands = record {
      begins = ap (λ l. may_begin l contents) bounded ∙ begun;
      run = subst (λ l. IsRun l contents (with_acts acts ∷ h)) (sym bounded) (run, owed);
      moment = ap (λ (z : Tables). z.moment) (sym is) ∙ now_is;
      bounded = bounded;
      counted = counts;
      rows = subst (λ l. RowsStand l u (tables contents (with_acts acts ∷ h))) (sym bounded) (subst (RowsStand (shelf_of r.entries).limits u) is stands);
    }

    by_refusal : (o : Option Refusal) → refusal_of (gate_of r ev) ev ≡ o → Reported r u contents h before out now ev
    by_refusal None is =
        let free : denial t ev ≡ None = sym (denies_as r t ev rows) ∙ is in
        let done = answered is (shelf_of r.entries).limits t facts rows free in
        let acts = accepted_acts (shelf_of r.entries).limits t now ev done.flaw in
        let e : Entry = with_acts acts in
        let counts = one_counted (shelf_of r.entries).faults (shelf_of u.entries).faults done.flaw (is_fault done.flaw) refl done.caused never in
        reported_by r u contents h before out acts now ev done.acts
        (stands_with acts (after_accepted t e) (next_tables contents h e (undenied (shelf_of r.entries).limits t now ev done.flaw)) refl
        (record {
          later = in_time;
          acts = sym (ap (answer (shelf_of r.entries).limits t now ev) done.shown ∙ answer_accepted (shelf_of r.entries).limits t now ev done.flaw free);
          flaw = may_stand_accepted (shelf_of r.entries).limits t e done.flaw done.shown done.may;
        }) (subst (λ (f : Flaw). (shelf_of r.entries).faults + (if is_fault f then 1 else 0) ≤ (shelf_of u.entries).faults) (sym done.shown) counts)
        done.rows.limits done.rows)
    by_refusal (Some why) is =
        let some : denial t ev ≡ Some why = sym (denies_as r t ev rows) ∙ is in
        let acts = act.Denied why ∷ [] in
        let e : Entry = with_acts acts in
        reported_by r u contents h before out acts now ev (denied why is).1
        (stands_with acts (after_denied t e) (denied_tables contents h e refl) refl
        (record {
          later = in_time;
          acts = sym (answer_denied (shelf_of r.entries).limits t now ev NoFlaw why some);
          flaw =
              may_stand_denied (shelf_of r.entries).limits t e refl;
        })
        (omega (arith, never))
        (ap (λ (z : Rows B g). (shelf_of z.entries).limits) (denied why is).0)
        (subst (λ z. RowsStand (shelf_of r.entries).limits z (after_denied t e)) (sym (denied why is).0) (stands_denied r t e rows)))

    pub one_more : Reported r u contents h before out now ev
    one_more = by_refusal (refusal_of (gate_of r ev) ev) refl

  abbrev some_more : (last : ℕ) → last ≤ now → (some : StandsUntil r bytes last) → Reported r u some.0.contents some.0.h before out now ev
  some_more last later (s, until) = one_more s.contents s.h s.begins s.run (sized_of_some r bytes small s) s.rows (omega (arith, later, until))

  pub some_after : IsEventWithinLimits ev → (last : ℕ) → last ≤ now → StandsUntil r bytes last → StandsAt u (bytes + received_in ev) now
  some_after within_limits last later (s, until) =
      let more = (some_more last later (s, until)).more in (
        record {
          contents = s.contents;
          h = record { now = now; event = ev; acts = acts_in before out } ∷ s.h;
          begins = more.begins;
          short = s.short;
          within_limits = (s.within_limits, within_limits_fields ev within_limits);
          starts = (s.starts, has_target ev within_limits);
          run = more.run;
          received = more_received {a = bytes + received_in ev} (received_in ev) refl
              (received_next s.contents s.h (record { now = now; event = ev; acts = acts_in before out })) s.received;
          rows = more.rows;
        },
        more.moment,
      )

  pub small_starts : IsEventWithinLimits ev → (last : ℕ) → last ≤ now → ∥ StandsUntil r bytes last ∥₁ → r.last_start < 2 ^ 62 → u.last_start < 2 ^ 62
  small_starts within_limits last later some small =
      merely_below u.last_start (2 ^ 62) some (λ until.
      let more = (some_more last later until).more in
      let was : (tables until.0.contents until.0.h).last_start < 2 ^ 62 = subst (λ n. n < 2 ^ 62) until.0.rows.last_start small in
      subst (λ n. n < 2 ^ 62) (sym more.rows.last_start)
      (small_next until.0.contents until.0.h (record { now = now; event = ev; acts = acts_in before out }) within_limits was))

  pub bounded_after : (last : ℕ) → last ≤ now → ∥ StandsUntil r bytes last ∥₁ → (shelf_of u.entries).limits ≡ (shelf_of r.entries).limits
  bounded_after last later some =
      ∥∥₁_elim some (limits_set (shelf_of u.entries).limits (shelf_of r.entries).limits) (λ s. (some_more last later s).more.bounded)

  pub reported_after : (last : ℕ) → last ≤ now → ∥ StandsUntil r bytes last ∥₁ → out ≡ before ++ acts_in before out
  reported_after last later some = ∥∥₁_elim some (acts_set out (before ++ acts_in before out)) (λ s. (some_more last later s).reported)

  pub counted_after : (last : ℕ) → last ≤ now → ∥ StandsUntil r bytes last ∥₁ → (shelf_of r.entries).faults + failures_in
      (acts_in before out) ≤ (shelf_of u.entries).faults
  counted_after last later some = ∥∥₁_elim some le_prop (λ s. (some_more last later s).more.counted)

module _ {B : Type 0} {g : Ghosts B} (s u : Cache B g) (now : ℕ) (ev : Event) (before out : List Act)
    (denied : (why : Refusal) → refusal_of (gate_of s.rows ev) ev ≡ Some why → (u.rows ≡ s.rows) × (out ≡ before ++ act.Denied why ∷ []))
    (answered : refusal_of (gate_of s.rows ev) ev ≡ None → Answers s.rows u.rows before out now ev)
    (later : s.last_moment ≤ now) (moment : u.last_moment ≡ now) (never : (shelf_of s.rows.entries).faults ≤ (shelf_of u.rows.entries).faults)
    (small : s.received < 2 ^ 61) where
  stands_on : ∥ StandsUntil s.rows s.received s.last_moment ∥₁ → (contents : Contents) (h : History) → StandsFor s contents h → StandsFor u contents (record { now = now; event = ev; acts = acts_in before out } ∷ h)
  stands_on some contents h stands =
      let sized = sized_of_any s.rows s.received contents h small (∥∥₁_map some (λ until. until.0)) stands.begins stands.run stands.rows in
      let more = (one_more s.rows u.rows now ev before out denied answered never s.received small contents h stands.begins stands.run sized stands.rows
      (subst (λ m. m ≤ now) stands.moment later)).more in
      record {
        begins = more.begins;
        short = stands.short;
        run = more.run;
        moment = moment ∙ sym more.moment;
        rows = more.rows;
      }

  pub steps_on : ∥ StandsUntil s.rows s.received s.last_moment ∥₁ → u.steps ≡ s.steps + 1 → Steps s u before out now ev
  steps_on some one = record {
    acts = acts_in before out;
    reported = reported_after s.rows u.rows now ev before out denied answered never s.received small s.last_moment later some;
    answered = record {
      limits = bounded_after s.rows u.rows now ev before out denied answered never s.received small s.last_moment later some;
      stands = stands_on some;
      counted = counted_after s.rows u.rows now ev before out denied answered never s.received small s.last_moment later some;
      number = one;
    };
  }

-- THE PROMISES

evicted_few : (limits : Limits) (contents : Contents) (h : History) → may_begin limits contents ≡ true → IsRun limits contents h → HasEvictedFew h
evicted_few limits contents [] may run = tt
evicted_few limits contents (e ∷ h) may run = few_in_runs limits contents may h e run

pub keeps_promises : {B : Type 0} {g : Ghosts B} (s : Cache B g) → KeepsPromises s
keeps_promises s contents h stands = record {
  once = delivers_in_runs (shelf_of s.rows.entries).limits contents h stands.begins stands.run;
  turn = turns_in_runs (shelf_of s.rows.entries).limits contents h stands.begins stands.run;
  waits = chains_in_runs (shelf_of s.rows.entries).limits contents h stands.begins stands.run;
  barrier = dooms_in_runs (shelf_of s.rows.entries).limits contents h stands.begins stands.run;
  truthful = truth_in_runs (shelf_of s.rows.entries).limits contents h stands.begins stands.run;
  binds = binds_in_runs (shelf_of s.rows.entries).limits contents h stands.begins stands.run;
  stored = stores_grow_in_runs (shelf_of s.rows.entries).limits contents h stands.begins stands.run;
  few_open = open_in_runs (shelf_of s.rows.entries).limits contents h stands.begins stands.run;
  gives = gives_stored_in_runs (shelf_of s.rows.entries).limits contents h stands.begins stands.run;
  evicted = evicted_few (shelf_of s.rows.entries).limits contents h stands.begins stands.run;
}
