-- A session whose events come as the text of a schedule.
--
-- A cache that begins comes from a moment below 2^62 (`early_of`), so a schedule may begin there. A piece that isn't refused is of
-- a session that answers, and the first one is of a cache that has answered nothing (`few_given`, `unused_before`). What a schedule
-- brings over sessions it brings over their caches (`in_cache`), and none of its events leaves an act to tell (`idle_after`). So a
-- piece is read on (`read_on`), wholly (`read_wholly`) or up to a refused line (`read_to_refusal`). The laws of texts are those of
-- pieces at a cache (`texts_as_one`), and of a replay (`are_replayed`, `are_refused_alike`).
use Rattle.std.{proofs.{Common.{◌≡◌, ℕ, ◌+◌, ◌<◌, ◌≤◌, ◌^◌, ◌||◌, List, [], Bool, Option, Some, None, Ok, Err, length, true, false, refl, sym, ap, subst, ◌∙◌, arith}, lemmas.Bool.{and_parts, Decides.{nat_tests}}, Math.Logic.{∥∥₁_map}}, specs.Prelude.{nat_lt, is_some, if◌then◌else◌}}
use Rattle.hc_binary.specs.{Refusals.{code_of}, declared.refused.CallRefusal.{CallRefusal}}
use Rattle.hc_binary.specs.declared.refused.CallRefusal.TheVariants as refused
use Rattle.hc_core.specs.{declared.cache.Cache.{Cache}, Steps.{StandsFor, has_failed, last_moment, bytes_received}}
use Rattle.hc_core.specs.Steps as core
use Rattle.hc_event.specs.Acts.{act_list}
use Rattle.hc_model.specs.{Beginnings.{may_begin}, Entries.{Contents}, Tables.{tables}}
use Rattle.hc_piecewise.specs.{declared.schedule.Schedule.{Schedule}, Schedules.{MayGoOn, IsStepped, progress_in, entries_in, report_in, given_in, refusal_in}, Texts.{is_reading}}
use Rattle.hc_piecewise.proofs.{Pieces.{reads_in, stopped_in}, Refusals.{stepped_to_refusal}, Texts.{pieces_as_one, stepped_through, brings_by, leads_keep}}
use Rattle.hc_replay.proofs.ReportSteps.{replays_all}
use Rattle.hc_sched.specs.{declared.schedule.Refused.{Refused}, Reading.{Progress, refusal_at}, Feeding.{progress_at_end}}
use Rattle.hc_sched.specs.declared.schedule.Ended.TheVariants as ended
use Rattle.hc_store.specs.declared.backend.Backend.{Ghosts}
use Rattle.hc_handle.specs.Readings as readings
use Rattle.hc_handle.specs.{declared.session.Session.{Session}, Readings.{MayReadOn}, Sessions.{IsSilent, has_text}, TextLaws.{AreTextsAsOne, AreReplayed, AreRefusedAlike}, Texts.{CacheBrings, HasEndCause, HasTextCause, IsEnded, IsIdle, IsRead, IsReadOn, IsReported, IsTaken, IsUnended, AnswersInText, entries_at, given_at, progress_at, report_at, text_refusal_at}}

-- a cache that begins with contents comes from an early moment
pub early_of : {B : Type 0} {g : Ghosts B} (s : Cache B g) (contents : Contents) → StandsFor s contents [] → last_moment s < 2 ^ 62
unfolding tables may_begin
early_of s contents stands =
    let weight = and_parts _ _ stands.begins in
    let next = and_parts _ _ weight.0 in
    let zero = and_parts _ _ next.0 in
    let last = and_parts _ _ zero.0 in
    let good = and_parts _ _ last.0 in
    let now : nat_lt contents.now (2 ^ 62) ≡ true = good.1 in
    let at : last_moment s ≡ contents.now = stands.moment in
    grind (arith, nat_tests)

-- WHETHER A PIECE IS READ

admitted : (spent many text steps received : Bool) →
    (if spent then Some refused.NoMemory else if many then Some refused.Exhausted else if text then None
    else if steps || received then Some refused.Late else None) ≡ None →
    (spent ≡ false) × (many ≡ false) × (text ≡ false → (steps ≡ false) × (received ≡ false))
admitted true many text steps received is = absurd (let never : true ≡ false = ap is_some is in cc)
admitted false true text steps received is = absurd (let never : true ≡ false = ap is_some is in cc)
admitted false false true steps received is = (refl, refl, λ off. absurd (let never : true ≡ false = off in cc))
admitted false false false true received is = absurd (let never : true ≡ false = ap is_some is in cc)
admitted false false false false true is = absurd (let never : true ≡ false = ap is_some is in cc)
admitted false false false false false is = (refl, refl, λ off. (refl, refl))

at_most : (a b : ℕ) → nat_lt a b ≡ false → b ≤ a
at_most a b off = grind (arith, nat_tests)

none_at : (a : ℕ) → nat_lt 0 a ≡ false → a ≡ 0
none_at a off = let few = at_most 0 a off in omega (arith, few)

module _ (s : Session) (len : ℕ) (none : text_refusal_at s len ≡ None) where
  admits : (s.spent ≡ false) × (nat_lt (2 ^ 60) (given_at s + len) ≡ false) × (has_text s ≡ false → (nat_lt 0 (core.steps s.cache) ≡ false)
      × (nat_lt 0 (bytes_received s.cache) ≡ false))
  admits = admitted s.spent (nat_lt (2 ^ 60) (given_at s + len)) (has_text s) (nat_lt 0 (core.steps s.cache)) (nat_lt 0 (bytes_received s.cache)) none

  pub ready_before : s.spent ≡ false
  ready_before = admits.0

  pub few_given : given_at s + len ≤ 2 ^ 60
  few_given = at_most (2 ^ 60) (given_at s + len) admits.1

  pub unused_before : has_text s ≡ false → (core.steps s.cache ≡ 0) × (bytes_received s.cache ≡ 0)
  unused_before off = let both = admits.2 off in (none_at _ both.0, none_at _ both.1)

-- WHAT GOES ON

-- no schedule is there
pub none_of : (o : Option Schedule) → is_some o ≡ false → o ≡ None
none_of None off = refl
none_of (Some t) off = absurd (let never : true ≡ false = off in cc)

-- the schedule that a session has may go on
pub may_some : (o : Option Schedule) (t : Schedule) (m n r : ℕ) (spent : Bool) → o ≡ Some t → spent ≡ false →
    ∥ (spent ≡ false → MayReadOn o m n r) ∥₁ → ∥ MayGoOn m n r t ∥₁
may_some o t m n r spent is ready may = ∥∥₁_map may (λ k. subst (λ (p : Option Schedule). MayReadOn p m n r) is (k ready))

-- a session keeps a schedule that may go on
pub keeps_some : (t : Schedule) (m n r : ℕ) (spent : Bool) → ∥ MayGoOn m n r t ∥₁ → ∥ (spent ≡ false → MayReadOn (Some t) m n r) ∥₁
keeps_some t m n r spent may = ∥∥₁_map may (λ k ready. k)

-- and it does so as long as the counts of its cache stay
pub keeps_same : (o : Option Schedule) (m n r m' n' r' : ℕ) (spent : Bool) → m' ≡ m → n' ≡ n → r' ≡ r → ∥ (spent ≡ false → MayReadOn o m n r) ∥₁ →
    ∥ (spent ≡ false → MayReadOn o m' n' r') ∥₁
keeps_same o m n r m' n' r' spent moment steps received may = rw (moment, steps, received) may

-- A PIECE

module _ (s mid after : Session) (before now : Schedule) (text : List ℕ) (taken : IsTaken s mid before)
    (stepped : IsStepped AnswersInText before now text mid after) where
  in_cache : CacheBrings mid.cache after.cache (entries_in before) (entries_in now) (progress_in before) (progress_in now) text (report_in now)
  in_cache = brings_by AnswersInText _ (λ t. t.cache) (λ t at event acts u answered. answered.0) (entries_in before) (entries_in now) (progress_in before)
      (progress_in now) text
      (report_in now) mid after stepped

  brings_from : CacheBrings s.cache after.cache (entries_at s) (entries_in now) (progress_at s) (progress_in now) text (report_in now)
  brings_from =
      subst (λ c. CacheBrings c after.cache (entries_at s) (entries_in now) (progress_at s) (progress_in now) text (report_in now)) taken.cache
      (subst (λ (n : ℕ). CacheBrings mid.cache after.cache n (entries_in now) (progress_at s) (progress_in now) text (report_in now)) taken.entries
      (subst (λ (p : Progress). CacheBrings mid.cache after.cache (entries_in before) (entries_in now) p (progress_in now) text (report_in now)) taken.progress
      in_cache))

  pub idle_after : IsIdle after
  idle_after = leads_keep AnswersInText IsIdle (λ t at event acts u answered. answered.1) mid after stepped.entries taken.idle stepped.leads

  module _ (u : Session) (cache_is : u.cache ≡ after.cache) (schedule_is : u.schedule ≡ Some now) (spent_is : u.spent ≡ after.spent)
      (acts_are : act_list u.acts ≡ act_list after.acts) (reported_is : u.reported ≡ after.reported) where
    reported : IsReported s u text (report_at u)
    reported =
        subst (λ (o : Option Schedule). CacheBrings s.cache u.cache (entries_at s) (readings.entries_of o) (progress_at s)
        (readings.progress_of (last_moment u.cache) o) text (readings.report_of o)) (sym schedule_is)
        (subst (λ c. CacheBrings s.cache c (entries_at s) (entries_in now) (progress_at s) (progress_in now) text (report_in now)) (sym cache_is) brings_from)

    pub read_on : IsReadOn s u text
    read_on = record {
      reported = reported;
      ready = spent_is ∙ idle_after.ready;
      goes_on = ap is_some schedule_is;
      no_acts = acts_are ∙ idle_after.no_acts;
      none_reported = reported_is ∙ idle_after.none_reported;
    }

    pub read_wholly : (m n r : ℕ) → text_refusal_at s (length text) ≡ None → refusal_in now ≡ None → ∥ MayGoOn m n r now ∥₁ → IsRead s u text (Ok tt)
    read_wholly m n r none free may =
        (none, read_on, ap (λ (o : Option Schedule). is_reading (readings.progress_of (last_moment u.cache) o)) schedule_is ∙ reads_in m n r now may free)

    pub read_to_refusal : (found : Refused) → text_refusal_at s (length text) ≡ None → refusal_in now ≡ Some found → IsRead s u text (Err refused.BadText)
    read_to_refusal found none is = record {
      cause = subst (λ (o : Option CallRefusal). HasTextCause o s u text refused.BadText) (sym none) (
        read_on,
        (
          found,
          record {
            stands = ap (readings.progress_of (last_moment u.cache)) schedule_is ∙ stopped_in now found is;
            told = ap readings.refusal_of schedule_is ∙ is;
          },
        ),
      );
      spent = λ memory. absurd (let never : 14 ≡ 2 = ap code_of memory in omega (arith, never));
      kept = λ other bad. absurd (bad refl);
    }

-- no piece is read, or memory was refused
pub unread : (s : Session) (text : List ℕ) (why : CallRefusal) → text_refusal_at s (length text) ≡ Some why →
    (Some why ≡ Some refused.NoMemory → IsSilent s) → IsRead s s text (Err why)
unread s text why is silent = record {
  cause = subst (λ (o : Option CallRefusal). HasTextCause o s s text why) (sym is) refl;
  spent = λ memory. silent (ap (λ (e : CallRefusal). Some e) memory);
  kept = λ memory bad. refl;
}

-- THE LAWS

pub texts_as_one : AreTextsAsOne
texts_as_one s t u text piece report one two =
    pieces_as_one _ (entries_at s) (entries_at t) (entries_at u) (progress_at s) (progress_at t) (progress_at u) text piece report (report_at u)
    s.cache t.cache u.cache one two.reported

-- what a text of a session without one brought, it brought to the cache from its beginning on
brought : (s u : Session) (text report : List ℕ) → has_text s ≡ false → IsReported s u text report →
    CacheBrings s.cache u.cache 0 (entries_at u) (readings.progress_of (last_moment s.cache) None) (progress_at u) text report
brought s u text report off reported =
    subst (λ (o : Option Schedule). CacheBrings s.cache u.cache (readings.entries_of o) (entries_at u) (readings.progress_of (last_moment s.cache) o)
    (progress_at u) text report) (none_of s.schedule off) reported

pub are_replayed : AreReplayed
are_replayed s u text report off reported none =
    replays_all s.cache u.cache (last_moment s.cache) (Some text) (Some []) (Some []) (Some report) ended.Done
    (stepped_through _ (λ c d. has_failed d ≡ true) (last_moment s.cache) (entries_at u) (progress_at u) text report s.cache u.cache
    (brought s u text report off reported) none)

pub are_refused_alike : AreRefusedAlike
are_refused_alike s u text report refused off reported is =
    let stepped = stepped_to_refusal _ (λ c d. has_failed d ≡ true) (last_moment s.cache) (entries_at u) (progress_at u) refused text report s.cache u.cache
    (brought s u text report off reported) is in (
      stepped.0,
      replays_all s.cache u.cache (last_moment s.cache) (Some text) (Some stepped.0) (Some []) (Some report) (ended.Refused refused) stepped.1,
    )

-- THE END

module _ (s u : Session) (t now : Schedule) (is : s.schedule ≡ Some t) (schedule_is : u.schedule ≡ Some now) (cache_is : u.cache ≡ s.cache)
    (spent_is : u.spent ≡ s.spent) (acts_are : act_list u.acts ≡ act_list s.acts) (reported_is : u.reported ≡ s.reported)
    (progress : progress_in now ≡ progress_at_end (progress_in t)) (entries : entries_in now ≡ entries_in t) (report : report_in now ≡ report_in t)
    (given : given_in now ≡ given_in t) where
  ended_at : IsEnded s u
  ended_at = record {
    progress = ap (readings.progress_of (last_moment u.cache)) schedule_is
        ∙ (progress ∙ ap progress_at_end (sym (ap (readings.progress_of (last_moment s.cache)) is)));
    entries = ap readings.entries_of schedule_is ∙ (entries ∙ sym (ap readings.entries_of is));
    report = ap readings.report_of schedule_is ∙ (report ∙ sym (ap readings.report_of is));
    given = ap readings.given_of schedule_is ∙ (given ∙ sym (ap readings.given_of is));
    cache = cache_is;
    ready = spent_is;
    acts = acts_are;
    reported = reported_is;
  }

  pub end_refused : (found : Refused) → text_refusal_at s 0 ≡ None → refusal_at (progress_in t) ≡ Some found → refusal_in now ≡ Some found →
      IsUnended s u refused.BadText
  end_refused found none at told = record {
    cause = subst (λ (o : Option CallRefusal). HasEndCause o s u refused.BadText) (sym none) (
      ended_at,
      (
        found,
        ap (λ (o : Option Schedule). refusal_at (readings.progress_of (last_moment s.cache) o)) is ∙ at,
        record {
          stands = ap (readings.progress_of (last_moment u.cache)) schedule_is ∙ stopped_in now found told;
          told = ap readings.refusal_of schedule_is ∙ told;
        },
      ),
    );
    kept = λ bad. absurd (bad refl);
  }
