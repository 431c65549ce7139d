-- What each leave closes, and what goes with it: that of who ends, fails or is cancelled.
--
-- `IsPrefix` is what is said to who leaves, by which event, so all leaves are proved at once. Then come the closings and
-- a loss. What goes does so by a loss, by a failed read, or with the exchange that founded it, where it can't be
-- completed later (`goes_by`, `ends_as`). Who leaves is over and doesn't start over (`itself`); to others nothing is
-- said (`far`). `leaves` joins this into the tables.
use Rattle.std.{proofs.{lemmas.Bool.Decides.{nat_tests}, Common.{arith, ◌≡◌, inl, inr, ℕ, List, [], ◌∷◌, ◌++◌, Bool, true, false, Option, Some, None, refl, ap, sym, ◌∙◌}}, specs.Prelude.{◌&&◌, ◌||◌, ◌==◌, not, nat_eq, if◌then◌else◌, map, option_map}}
use Rattle.hc_text.proofs.Basics.{bool_cases, eqb-same, not_some as none_some, or_false as or_off, or_rest, plus_none, and_off as then_false}
use Rattle.hc_effects.proofs.Vocabulary.{brings_whole, Opening, opening_in, asks_in, closes_in, evicts_in, leaves_in, shows_in, given_in, Act, Cause, Event, Limits, loses_in, misreads_in, showing_in, wait_in, accepted_acts, answer_acts, loss_acts, is_asked, closing, leaver_by, consumer_after, consumer_acted, consumer_heard, is_current, is_number, with_event, with_consumer, let_all_go, over, as_gone, as_over, left_by, is_unkeepable, going_with, Entry, exchange_after, is_open, Flaw, NoFlaw, becomes_gone, ends_early, ends_founding, is_keepable, Lawful, is_failed_read, representation_after, Tables, Exchange, Representation, Consumer, loses_what_it_waits_for, after_accepted, with_item_first, starts_after, last_start_after, opened_after, openings_after, act, cause}
use Rattle.hc_event.specs.declared.event.Event.TheVariants as event
use Rattle.hc_event.specs.declared.place.Place.TheVariants as place
use Rattle.hc_effects.proofs.{ActParts.{IsFarFrom, far_closing, far_lost_only, closes_before, evicts_closed, loses_closed, asks_closed, asks_loss}, Basics.{false_true, number_is}, ConsumerEffects.{after_by, others}, OfConsumers.{IsOf, BringsNothing, brings_nothing, left_open, closes_left, goes_as, row_acted, consumer_itself, binds_none}, SameTables.{is_in, in_one, shut}, Untouched.{own_stays, spared_bodiless, exchange_absent}, OpeningPoll.{no_misread}}
use Rattle.hc_effects.proofs.OfConsumers as event_of

-- WHAT IS SAID TO WHO LEAVES

-- at this event, and the representation of which a read failed
pub data IsPrefix (c : ℕ) : Event → Option ℕ → List Act → Type 0 where
  ends : (want : ℕ) → IsPrefix c (event.Poll c want) None (act.Ended c ∷ [])
  fails : (want : ℕ) (why : Cause) → is_failed_read (Some why) ≡ false → IsPrefix c (event.Poll c want) None (act.Failed c why ∷ [])
  misreads : (want r : ℕ) → IsPrefix c (event.Poll c want) (Some r) (act.Failed c (cause.StoreRead r) ∷ [])
  cancels : IsPrefix c (event.Cancel c) None []

pub of_front : (c : ℕ) (ev : Event) (o : Option ℕ) (front : List Act) → IsPrefix c ev o front → IsOf c ev
of_front c _ _ _ (ends want) = event_of.polls want
of_front c _ _ _ (fails want why reported) = event_of.polls want
of_front c _ _ _ (misreads want r) = event_of.polls want
of_front c _ _ _ cancels = event_of.cancels

-- what is said before the rest
record Fronts (c : ℕ) (ev : Event) (o : Option ℕ) (front rest : List Act) : Type 0 where
  asked : is_asked ev ≡ true
  far : (d : ℕ) → nat_eq c d ≡ false → IsFarFrom d rest → IsFarFrom d (front ++ rest)
  closes : (x : ℕ) → closes_in x (front ++ rest) ≡ closes_in x rest
  asks : (x : ℕ) → asks_in x (front ++ rest) ≡ asks_in x rest
  loses : (r : ℕ) → loses_in r (front ++ rest) ≡ loses_in r rest
  evicts : (r : ℕ) → evicts_in r (front ++ rest) ≡ evicts_in r rest
  misreads : (r : ℕ) → misreads_in r rest ≡ false → misreads_in r (front ++ rest) ≡ is_number o r
  opens : opening_in (front ++ rest) ≡ opening_in rest
  shows : showing_in (front ++ rest) ≡ showing_in rest

not_misread : (why : Cause) (r : ℕ) (rest : List Act) → is_failed_read (Some why) ≡ false → misreads_in r rest ≡ false → misreads_in
    r (act.Failed 0 why ∷ rest) ≡ false
not_misread why r rest reported none = grind (arith, nat_tests)

fronts : (c : ℕ) (ev : Event) (o : Option ℕ) (front rest : List Act) → IsPrefix c ev o front → Fronts c ev o front rest
fronts c _ _ _ rest (ends want) =
    record {
      asked = refl;
      far =
          λ d other far. record {
            waits = far.waits;
            leaves = rw other far.leaves;
            fails = far.fails;
            shows = far.shows;
            given = far.given;
            opens = far.opens;
            showing = far.showing;
          };
      closes = λ x. refl;
      asks = λ x. refl;
      loses = λ r. refl;
      evicts = λ r. refl;
      misreads = λ r none. none;
      opens = refl;
      shows =
          refl;
    }
fronts c _ _ _ rest (fails want why reported) =
    record {
      asked = refl;
      far =
          λ d other far. record {
            waits = far.waits;
            leaves = rw other far.leaves;
            fails = rw other far.fails;
            shows = far.shows;
            given = far.given;
            opens =
                far.opens;
            showing = far.showing;
          };
      closes = λ x. refl;
      asks = λ x. refl;
      loses = λ r. refl;
      evicts = λ r. refl;
      misreads =
          λ r none. not_misread why r rest reported none;
      opens = refl;
      shows = refl;
    }
fronts c _ _ _ rest (misreads want q) =
    record {
      asked = refl;
      far =
          λ d other far. record {
            waits = far.waits;
            leaves = rw other far.leaves;
            fails = rw other far.fails;
            shows = far.shows;
            given = far.given;
            opens =
                far.opens;
            showing = far.showing;
          };
      closes = λ x. refl;
      asks = λ x. refl;
      loses = λ r. refl;
      evicts = λ r. refl;
      misreads =
          λ r none. or_rest (q == r) (misreads_in r rest) none;
      opens = refl;
      shows = refl;
    }
fronts c _ _ _ rest cancels =
    record {
      asked = refl;
      far = λ d other far. far;
      closes = λ x. refl;
      asks = λ x. refl;
      loses = λ r. refl;
      evicts = λ r. refl;
      misreads =
          λ r none. none;
      opens = refl;
      shows = refl;
    }

leaver_is : (c : ℕ) (ev : Event) (o : Option ℕ) (front : List Act) (flaw : Flaw) → IsPrefix c ev o front → leaver_by ev (front ++ loss_acts flaw) ≡ Some c
leaver_is c _ _ _ flaw (ends want) = refl
leaver_is c _ _ _ flaw (fails want why reported) = refl
leaver_is c _ _ _ flaw (misreads want r) = refl
leaver_is c _ _ _ flaw cancels = refl

-- WHAT IS CLOSED AND LOST

pub closes_are : (x : ℕ) (xs : List ℕ) → closes_in x (map act.Close xs) ≡ is_in xs x
closes_are x [] = refl
closes_are x (y ∷ ys) = ap (λ b. (y == x) || b) (closes_are x ys)

-- nothing is said to anyone
record IsSilent (c : ℕ) (acts : List Act) : Type 0 where
  opens : opening_in acts ≡ None
  showing : showing_in acts ≡ None
  waits : wait_in c acts ≡ None
  leaves : leaves_in c acts ≡ false
  shows : shows_in c acts ≡ false
  gives : given_in c acts ≡ []

silent : (c : ℕ) (xs : List ℕ) (flaw : Flaw) → IsSilent c (map act.Close xs ++ loss_acts flaw)
silent c [] NoFlaw = record { opens = refl; showing = refl; waits = refl; leaves = refl; shows = refl; gives = refl }
silent c [] _ = record { opens = refl; showing = refl; waits = refl; leaves = refl; shows = refl; gives = refl }
silent c (x ∷ xs) flaw = let s = silent c xs flaw in
    record { opens = s.opens; showing = s.showing; waits = s.waits; leaves = s.leaves; shows = s.shows; gives = s.gives }

-- who leaves is over
over_by : (t : Tables) (now c : ℕ) (k : Consumer) (ev : Event) (o : Option ℕ) (front rest : List Act) → IsPrefix c ev o front → IsSilent c rest
    → consumer_acted t (record { now = now; event = ev; acts = front ++ rest }) c
    (consumer_heard t (record { now = now; event = ev; acts = front ++ rest }) c ev k) ≡ record k { place = place.Over }
over_by t now c k _ _ _ rest (ends want) s =
    rw (
      s.opens,
      s.waits,
      s.shows,
      s.gives,
      eqb-same c,
      plus_none k.given,
      own_stays t (record { now = now; event = event.Poll c want; acts = act.Ended c ∷ rest }) c k.place k.own
          (spared_bodiless t (record { now = now; event = event.Poll c want; acts = act.Ended c ∷ rest }) k.place refl),
    ) refl
over_by t now c k _ _ _ rest (fails want why reported) s =
    rw (
      s.opens,
      s.waits,
      s.shows,
      s.gives,
      eqb-same c,
      plus_none k.given,
      own_stays t (record { now = now; event = event.Poll c want; acts = act.Failed c why ∷ rest }) c k.place k.own
          (spared_bodiless t (record { now = now; event = event.Poll c want; acts = act.Failed c why ∷ rest }) k.place refl),
    ) refl
over_by t now c k _ _ _ rest (misreads want r) s =
    rw (
      s.opens,
      s.waits,
      s.shows,
      s.gives,
      eqb-same c,
      plus_none k.given,
      own_stays t (record { now = now; event = event.Poll c want; acts = act.Failed c (cause.StoreRead r) ∷ rest }) c k.place k.own
          (spared_bodiless t (record { now = now; event = event.Poll c want; acts = act.Failed c (cause.StoreRead r) ∷ rest }) k.place refl),
    ) refl
over_by t now c k _ _ _ rest cancels s = rw (eqb-same c, s.opens, s.waits, s.leaves, s.showing, s.shows, s.gives, plus_none k.given) refl

no_start : (c : ℕ) (ev : Event) (o : Option ℕ) (front : List Act) → IsPrefix c ev o front → (cs : List ℕ) → starts_after ev cs ≡ cs
no_start c _ _ _ (ends want) cs = refl
no_start c _ _ _ (fails want why reported) cs = refl
no_start c _ _ _ (misreads want r) cs = refl
no_start c _ _ _ cancels cs = refl

no_last : (c : ℕ) (ev : Event) (o : Option ℕ) (front : List Act) → IsPrefix c ev o front → (n : ℕ) → last_start_after ev n ≡ n
no_last c _ _ _ (ends want) n = refl
no_last c _ _ _ (fails want why reported) n = refl
no_last c _ _ _ (misreads want r) n = refl
no_last c _ _ _ cancels n = refl

module _ (limits : Limits) (t : Tables) (law : Lawful t) (now c : ℕ) (k : Consumer) (row : t.consumer c ≡ Some k) (ev : Event) (flaw : Flaw)
    (o : Option ℕ) (front : List Act) (is : IsPrefix c ev o front) where
  -- what is closed
  abbrev pub xs : List ℕ
  xs = with_item_first (left_by t c k) []

  abbrev pub rest : List Act
  rest = map act.Close xs ++ loss_acts flaw

  -- the entry of the leave
  abbrev pub e : Entry
  e = record { now = now; event = ev; acts = front ++ rest }

  pub nothing : (acts : List Act) → BringsNothing t (record { now = now; event = ev; acts = acts }) c
  nothing acts = brings_nothing t now c ev acts (of_front c ev o front is)

  f : Fronts c ev o front rest
  f = fronts c ev o front rest is

  closing_is : closing t (record { now = now; event = ev; acts = front ++ loss_acts flaw }) ≡ xs
  closing_is = closes_left t (record { now = now; event = ev; acts = front ++ loss_acts flaw }) c (nothing (front ++ loss_acts flaw)) law.sound law.owned
      law.order c k row (leaver_is c ev o front flaw is)

  -- what is said, closed and lost
  pub acts_left : answer_acts t now ev flaw ≡ front → accepted_acts limits t now ev flaw ≡ front ++ rest
  acts_left said_is = rw f.asked (rw said_is (ap (λ ys. front ++ (map act.Close ys ++ loss_acts flaw)) closing_is))

  unopened : opening_in (front ++ rest) ≡ None
  unopened = f.opens ∙ (silent c xs flaw).opens

  -- EXCHANGES

  closes_as : (x : ℕ) → closes_in x (front ++ rest) ≡ is_in xs x
  closes_as x = f.closes x ∙ (closes_before x xs flaw ∙ closes_are x xs)

  asks_none : (x : ℕ) → asks_in x (front ++ rest) ≡ false
  asks_none x = f.asks x ∙ ((asks_closed x 0 xs (loss_acts flaw)).asks ∙ (asks_loss x 0 flaw).asks)

  exchange_by : (x : ℕ) → exchange_after t e x (t.exchange x) ≡ (if is_in xs x then option_map over (t.exchange x) else t.exchange x)
  exchange_by x = by_row (t.exchange x)
    where
      none_left : (b : Bool) → None ≡ (if b then option_map over None else None)
      none_left true = refl
      none_left false = refl

      by_test : (b : Bool) (w : Exchange) → Some (record w { is_open = not b && w.is_open }) ≡ (if b then option_map over (Some w) else Some w)
      by_test true w = refl
      by_test false w = refl

      by_row : (z : Option Exchange) → exchange_after t e x z ≡ (if is_in xs x then option_map over z else z)
      by_row None = exchange_absent t e x (λ p same. absurd (none_some p (sym unopened ∙ same))) ∙ none_left (is_in xs x)
      by_row (Some w) = row_acted t e c (nothing (front ++ rest)) x w ∙ (rw (asks_none x, closes_as x) (by_test (is_in xs x) w))

  -- WHAT GOES

  pub loses_as : (r : ℕ) → loses_in r (front ++ rest) ≡ loses_in r (loss_acts flaw)
  loses_as r = f.loses r ∙ loses_closed r xs (loss_acts flaw)

  -- what a 200 founded that is closed goes, where it can't be completed later
  ends_as : (r : ℕ) (v : Representation) → t.representation r ≡ Some v →
      (ends_early t e r v && not (is_keepable v)) ≡ is_number (going_with t (left_by t c k)) r
  ends_as r v there = by_left (left_by t c k) refl
    where
      founding : (z : Option Exchange) (b : Bool) → closes_in r (front ++ rest) ≡ b → (b ≡ true → is_open z ≡ true) → ends_founding e r z ≡ b
      founding None true closes on = on refl
      founding None false closes on = refl
      founding (Some w) true closes on = rw (on refl, (nothing (front ++ rest)).goes_on r w, closes) refl
      founding (Some w) false closes on = rw ((nothing (front ++ rest)).goes_on r w, closes) (then_false w.is_open false refl)

      drop_true : (a b : Bool) → (a && true && b) ≡ (a && b)
      drop_true a b = grind (arith, nat_tests)

      drop_false : (a b : Bool) → (a && false && b) ≡ false
      drop_false a b = grind (arith, nat_tests)

      by_test : (b : Bool) → b ≡ is_number (if b then Some r else None) r
      by_test true = sym (eqb-same r)
      by_test false = refl

      other : (x : ℕ) (b : Bool) → nat_eq x r ≡ false → is_number (if b then Some x else None) r ≡ false
      other x b apart = grind (arith, nat_tests)

      by_left : (z : Option ℕ) → left_by t c k ≡ z → (ends_early t e r v && not (is_keepable v)) ≡ is_number (going_with t z) r
      by_left None left =
          let off : closes_in r (front ++ rest) ≡ false = closes_as r ∙ (in_one (left_by t c k) r ∙ ap (λ z. is_number z r) left) in
          rw (founding (t.exchange r) false off (λ on. absurd (false_true on))) (drop_false (brings_whole v.head.status) (not (is_keepable v)))
      by_left (Some x) left = elim (bool_cases (nat_eq x r)) [
        | inl here ↦
            let on : closes_in r (front ++ rest) ≡ true = closes_as r ∙ (in_one (left_by t c k) r ∙ (ap (λ z. is_number z r) left ∙ here)) in
            let same : Some x ≡ Some r = number_is (Some x) r here in
            rw (founding (t.exchange r) true on (λ _. left_open t law.sound law.owned c k row r (left ∙ same)))
            (drop_true (brings_whole v.head.status) (not (is_keepable v))
            ∙ (by_test (brings_whole v.head.status && not (is_keepable v))
            ∙ (ap (λ (z : Option Representation). is_number (if is_unkeepable z then Some r else None) r) (sym there)
            ∙ ap (λ z. is_number (going_with t z) r) (sym same))))
        | inr apart ↦
            let off : closes_in r (front ++ rest) ≡ false = closes_as r ∙ (in_one (left_by t c k) r ∙ (ap (λ z. is_number z r) left ∙ apart)) in
            rw (founding (t.exchange r) false off (λ on. absurd (false_true on)))
            (drop_false (brings_whole v.head.status) (not (is_keepable v)) ∙ sym (other x (is_unkeepable (t.representation x)) apart))
      ]

  -- by a loss, a failed read, or with what founded it
  pub goes_by : (r : ℕ) (v : Representation) → t.representation r ≡ Some v →
      becomes_gone t e r v ≡ (loses_in r (loss_acts flaw) || is_number o r || is_number (going_with t (left_by t c k)) r)
  goes_by r v there =
      goes_as t e c (nothing (front ++ rest)) r v
      ∙ rw (unopened, loses_as r, f.misreads r (no_misread r xs flaw), ends_as r v there, f.evicts r ∙ evicts_closed r xs flaw)
      (drop (is_current t v.key r) (loses_in r (loss_acts flaw)) (is_number o r) (is_number (going_with t (left_by t c k)) r))
    where
      drop : (a b d g : Bool) → ((a && false) || b || d || g || false) ≡ (b || d || g)
      drop true b d g = or_off (b || d || g)
      drop false b d g = or_off (b || d || g)

  -- CONSUMERS

  pub far : (d : ℕ) → nat_eq c d ≡ false → IsFarFrom d (front ++ rest)
  far d other = f.far d other (far_closing d xs (loss_acts flaw) (far_lost_only d flaw))

  -- it is over, and starts over by nothing
  pub itself : loses_what_it_waits_for t e c k.place ≡ false → consumer_after t e c (t.consumer c) ≡ Some (as_over k)
  itself stays =
      ap (consumer_after t e c) row
      ∙ consumer_itself t e c (nothing (front ++ rest)) c k (consumer_heard t e c ev k) (record k { place = place.Over }) refl
      (over_by t now c k ev o front rest is (silent c xs flaw)) stays

  -- THE TABLES

  -- c is over, what nobody reads any more is closed, and these are let go
  pub leaves : (rs : List ℕ) (rep : ℕ → Option Representation) →
      ((r : ℕ) (v : Representation) → t.representation r ≡ Some v → becomes_gone t e r v ≡ is_in rs r)
      → ((r : ℕ) → representation_after t e r (t.representation r) ≡ (if is_in rs r then option_map as_gone (rep r) else rep r)) →
      loses_what_it_waits_for t e c k.place ≡ false
      → after_accepted t e ≡ with_event now ev (let_all_go now rs (with_consumer c (Some (as_over k)) (record (shut xs t) { representation = rep })))
  leaves rs rep goes rows stays =
      after_by t e c (nothing (front ++ rest)) rs (record (shut xs t) { representation = rep }) (as_over k) (record {
        entries = refl;
        received = refl;
        last_start = no_last c ev o front is t.last_start;
        starts = no_start c ev o front is t.starts;
        opened = ap (λ (z : Option Opening). opened_after z t.opened) unopened;
        openings = ap (λ (z : Option Opening). openings_after z t.openings) unopened;
        founded = refl;
        used = binds_none t e c (nothing (front ++ rest)) unopened (f.shows ∙ (silent c xs flaw).showing);
        exchange = exchange_by;
        representation = rows;
        consumer = others t e c (nothing (front ++ rest)) law far rs goes;
      }) (itself stays) refl
