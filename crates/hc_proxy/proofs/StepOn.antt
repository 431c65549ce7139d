-- A step of the cache, for the tables of the definitions.
--
-- The cache says that it stands for one entry more. So the entry is owed by the tables, and these are those of the run
-- behind it. An entry opens the next exchange or none, of which nothing came: so no more bytes are unread than before.
-- A start has a number that was given out. The record is that of the run, since the code writes the text of the event
-- behind that of those before.
use Rattle.std.{proofs.Common.{◌≡◌, ◌≤◌, ◌<◌, ◌^◌, ℕ, ◌+◌, Bool, true, false, List, ◌∷◌, ◌++◌, Option, Some, None, refl, ap, sym, ◌∙◌, subst, arith, append_assoc}, specs.Prelude.{if◌then◌else◌}}
use Rattle.hc_core.specs.Steps.{StandsFor, Steps, faults_in, last_moment, limits_in, bytes_received}
use Rattle.hc_effects.proofs.Vocabulary.{act_list, Opening, opening_in, is_denied, IsEventWithinLimits, Event, Entry, may_begin, flaw_in, failures_in, Lawful, Tables, IsRun, IsOwed, owed, tables, after, after_accepted, after_denied, opened_after, last_start_after, received_in, HasTarget, Limits}
use Rattle.hc_event.specs.declared.event.Event.TheVariants as event
use Rattle.hc_effects.proofs.{NumbersKeep.{opens_next}, Owed.{goes, acts_are, denied_opens}}
use Rattle.hc_laws.proofs.{Faultless.{faultless_are_owed}, LawfulRuns.{lawful_in_runs}}
use Rattle.hc_sched.specs.Schedule.{IsEvent, timed_text}
use Rattle.hc_store.specs.declared.backend.Backend.{Ghosts}
use Rattle.hc_proxy.specs.declared.proxy.Proxy as loop
use Rattle.hc_proxy.specs.{Invariants.{unread, last_event}, Keeping.{Frame, HasCache, IsNumbered, Stepped, RestStays}, Records.{text_of, last_of}, Rows.{Proxy}, Steps.{with_entry}, Turns.{record_of}}
use Rattle.hc_proxy.proofs.{HeadsStay.{headed_on}, OpenAfter.{OpensIt}, Stands.{Stands, is_sound, grows_by}, Texts.{record_more, timed_one_more}, Unread.{unread_entry}}

-- AN EVENT THAT HAS A SPELLING is within limits

pub within_limits_spelled : (e : Event) → IsEvent e → IsEventWithinLimits e
within_limits_spelled (event.Start c request) is = (is.0, is.2, is.3.within_limits)
within_limits_spelled (event.Poll c want) is = tt
within_limits_spelled (event.Head x response) is = is.3.within_limits
within_limits_spelled (event.Piece x bytes) is = is.1
within_limits_spelled (event.End x) is = tt
within_limits_spelled (event.Fault x) is = tt
within_limits_spelled (event.Cancel c) is = tt
within_limits_spelled (event.Doom key) is = tt

-- who starts by it asks for a target
target_of : (e : Event) → IsEvent e → HasTarget e
target_of (event.Start c request) is = is.2
target_of (event.Poll c want) is = tt
target_of (event.Head x response) is = tt
target_of (event.Piece x bytes) is = tt
target_of (event.End x) is = tt
target_of (event.Fault x) is = tt
target_of (event.Cancel c) is = tt
target_of (event.Doom key) is = tt

-- WHAT AN ENTRY OPENS

module _ (limits : Limits) (p : Proxy) (s : Stands limits p) (e : Entry) (is : IsOwed limits p.tables e) where
  -- the next one
  pub opens_behind : (o : Opening) → opening_in e.acts ≡ Some o → o.x ≡ p.tables.opened + 1
  opens_behind o opens = by_denial (is_denied e.acts) refl
    where
      by_denial : (b : Bool) → is_denied e.acts ≡ b → o.x ≡ p.tables.opened + 1
      by_denial true denied = absurd (let never : None ≡ Some o = sym (denied_opens e.acts denied) ∙ opens in cc)
      by_denial false accepted =
          opens_next limits p.tables e.now (flaw_in e.acts) (is_sound limits p s) e.event o (goes limits p.tables e is accepted)
          (ap opening_in (sym (acts_are limits p.tables e is accepted)) ∙ opens)

  pub opened_grows : p.tables.opened ≤ (after p.tables e).opened
  opened_grows = grows_by limits p.tables e (is_sound limits p s) is (is_denied e.acts) refl

  -- no more than one
  little_by : (o : Option Opening) → ((q : Opening) → o ≡ Some q → q.x ≡ p.tables.opened + 1) → opened_after o p.tables.opened ≤ p.tables.opened + 1
  little_by None next = omega arith
  little_by (Some q) next = let is : q.x ≡ p.tables.opened + 1 = next q refl in omega arith

  pub opened_little : (after p.tables e).opened ≤ p.tables.opened + 1
  unfolding after
  opened_little = by_denial (is_denied e.acts)
    where
      by_denial : (b : Bool) → (if b then after_denied p.tables e else after_accepted p.tables e).opened ≤ p.tables.opened + 1
      by_denial true = omega arith
      by_denial false = little_by (opening_in e.acts) opens_behind

-- WHO STARTS

started_by : (ev : Event) (n starts : ℕ) → n ≤ starts → IsNumbered starts ev → last_start_after ev n ≤ starts
started_by (event.Start c request) n starts le is = is
started_by (event.Poll c want) n starts le is = le
started_by (event.Head x response) n starts le is = le
started_by (event.Piece x bytes) n starts le is = le
started_by (event.End x) n starts le is = le
started_by (event.Fault x) n starts le is = le
started_by (event.Cancel c) n starts le is = le
started_by (event.Doom key) n starts le is = le

pub start_by : (t : Tables) (e : Entry) (starts : ℕ) → t.last_start ≤ starts → IsNumbered starts e.event → (b : Bool) → is_denied e.acts ≡ b →
    (after t e).last_start ≤ starts
unfolding after
start_by t e starts le is true denied = rw denied le
start_by t e starts le is false accepted = rw accepted (started_by e.event t.last_start starts le is)

module _ {B : Type 0} {g : Ghosts B} where
  -- WHAT THE CACHE STANDS FOR

  pub run_of : (f : Frame) (x : loop.Proxy B g) (p : Proxy) → HasCache f x p → IsRun f.limits p.setting.contents p.history
  run_of f x p h = subst (λ (l : Limits). IsRun l p.setting.contents p.history) h.limits h.stands.run

  pub begins_of : (f : Frame) (x : loop.Proxy B g) (p : Proxy) → HasCache f x p → may_begin f.limits p.setting.contents ≡ true
  begins_of f x p h = subst (λ (l : Limits). may_begin l p.setting.contents ≡ true) h.limits h.stands.begins

  pub stands_of : (f : Frame) (x : loop.Proxy B g) (p : Proxy) → HasCache f x p → Stands f.limits p
  stands_of f x p h = record {
    begins = begins_of f x p h;
    run = run_of f x p h;
    same = h.same;
    later =
        let a : last_moment x.cache ≡ (tables p.setting.contents p.history).moment = h.stands.moment in
        let b : p.tables.moment ≡ (tables p.setting.contents p.history).moment = ap (λ (t : Tables). t.moment) h.same in
        let le : last_moment x.cache ≤ p.moment = h.last in
        omega arith;
  }

  pub law_of : (f : Frame) (x : loop.Proxy B g) (p : Proxy) → HasCache f x p → Lawful p.tables
  law_of f x p h = subst Lawful (sym h.same) (lawful_in_runs f.limits p.setting.contents p.history (begins_of f x p h) (run_of f x p h))

  -- ONE STEP

  module _ (f : Frame) (x x' : loop.Proxy B g) (ev : Event) (p : Proxy) (h : HasCache f x p)
      (room : unread p + bytes_received x.cache + received_in ev ≤ f.bytes) (numbered : IsNumbered x.starts ev) (spelled : IsEvent ev)
      (s : Steps x.cache x'.cache (act_list x.acts) (act_list x'.acts) x.now ev) where
    abbrev pub entry : Entry
    entry = record { now = x.now; event = ev; acts = s.acts }

    behind : StandsFor x'.cache p.setting.contents (entry ∷ p.history)
    behind = s.answered.stands p.setting.contents p.history h.stands

    limits_are : limits_in x'.cache ≡ f.limits
    limits_are = s.answered.limits ∙ h.limits

    runs : IsRun (limits_in x'.cache) p.setting.contents (entry ∷ p.history)
    runs = behind.run

    is_owed : IsOwed f.limits p.tables entry
    is_owed =
        subst (λ (t : Tables). IsOwed f.limits t entry) (sym h.same)
        (subst (λ (l : Limits). IsOwed l (tables p.setting.contents p.history) entry) limits_are runs.1)

    stands : Stands f.limits p
    stands = stands_of f x p h

    new : (o : Opening) → opening_in entry.acts ≡ Some o → p.upstream o.x ≡ None
    new o opens =
        let next : o.x ≡ p.tables.opened + 1 = opens_behind f.limits p stands entry is_owed o opens in
        h.unopened o.x (omega arith)

    unopened_next : (y : ℕ) → OpensIt y (opening_in entry.acts) → p.upstream y ≡ None
    unopened_next y o = subst (λ (n : ℕ). p.upstream n ≡ None) o.number (new o.q o.opens)

    unread_same : unread (with_entry entry p) ≡ unread p
    unread_same = unread_entry p entry new

    numbered_here : IsNumbered p.starts entry.event
    numbered_here = subst (λ (n : ℕ). IsNumbered n ev) h.starts numbered

    module _ (moment : last_moment x'.cache ≡ x.now) (received : bytes_received x'.cache ≡ bytes_received x.cache + received_in ev)
        (text : text_of x'.record ≡ text_of x.record ++ timed_text (last_of x.record) (record { now = x.now; event = ev }))
        (last : last_of x'.record ≡ x.now) (rest : RestStays x x') where
      text_is : record_of (with_entry entry p) ≡ f.written ++ text_of x'.record
      unfolding with_entry
      text_is =
          record_more p.setting.contents.now entry p.history
          ∙ (ap (λ (z : List ℕ). z ++ timed_text (last_event p.setting.contents.now p.history) (record { now = x.now; event = ev })) h.text
          ∙ (append_assoc f.written (text_of x.record) (timed_text (last_event p.setting.contents.now p.history) (record { now = x.now; event = ev }))
          ∙ ap (λ (z : List ℕ). f.written ++ z)
          (ap (λ (n : ℕ). text_of x.record ++ timed_text n (record { now = x.now; event = ev })) (sym h.recorded) ∙ sym text)))

      has_cache : HasCache f x' (with_entry entry p)
      unfolding with_entry tables
      has_cache = record {
        setting = h.setting;
        stands = behind;
        same = ap (λ (t : Tables). after t entry) h.same;
        limits = limits_are;
        now = rest.now ∙ h.now;
        early = h.early;
        last = (let a : last_moment x'.cache ≡ x.now = moment in let b : x.now ≡ p.moment = h.now in omega arith);
        starts = rest.starts ∙ h.starts;
        front = rest.front ∙ h.front;
        last_start = start_by p.tables entry p.starts h.last_start numbered_here (is_denied entry.acts) refl;
        text = text_is;
        recorded = last;
        before = (let b : x.now ≡ p.moment = h.now in omega arith);
        unopened = λ y lt. h.unopened y (let le : p.tables.opened ≤ (after p.tables entry).opened = opened_grows f.limits p stands entry is_owed in
            omega arith);
        headed = headed_on p entry unopened_next h.headed;
        small =
            let a : unread (with_entry entry p) ≡ unread p = unread_same in
            let b : bytes_received x'.cache ≡ bytes_received x.cache + received_in ev = received in
            let le : unread p + bytes_received x.cache + received_in ev ≤ f.bytes = room in
            omega arith;
        bounded = h.bounded;
        room = h.room;
        targets = (h.targets, target_of ev spelled);
        timed = timed_one_more p.setting.contents.now entry p.history h.timed spelled
            (let early : p.moment < 2 ^ 62 = h.early in let now : x.now ≡ p.moment = h.now in omega arith)
            (let before : last_event p.setting.contents.now p.history ≤ p.moment = h.before in let now : x.now ≡ p.moment = h.now in omega arith);
      }

      faultless : faults_in x'.cache ≡ faults_in x.cache → entry ≡ owed f.limits p.tables p.moment ev
      faultless same =
          let counted : faults_in x.cache + failures_in entry.acts ≤ faults_in x'.cache = s.answered.counted in
          let none : failures_in entry.acts ≡ 0 = omega arith in
          faultless_are_owed f.limits p.tables entry is_owed none ∙ ap (λ (m : ℕ). owed f.limits p.tables m ev) h.now

      pub stepped_so : Stepped f x x' ev p
      stepped_so = record {
        e = entry;
        now = h.now;
        event_is = refl;
        is_owed = is_owed;
        acts = s.reported;
        cache = has_cache;
        later = (let counted : faults_in x.cache + failures_in entry.acts ≤ faults_in x'.cache = s.answered.counted in omega arith);
        same = faultless;
      }
