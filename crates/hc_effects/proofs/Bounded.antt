-- Where a reader stands is within where it stops reading, and no exchange brings more than it promised.
--
-- An interval is in order since each range that is read is (`range_order`, `wanted_proper`). A reader was given nothing
-- when it is shown a head (`fresh_by`). Later it is given what comes next, within its end; `given_within` goes by what
-- a poll says to it. A piece is taken only within what its exchange promised (`brought`). `bounded_kept` joins these; a
-- beginning and a denied entry are short.
use Rattle.std.{proofs.{Common.{◌≡◌, ◌⊎◌, inl, inr, ℕ, ◌+◌, ◌≤◌, List, [], ◌∷◌, length, Bool, true, false, Option, Some, None, refl, ap, sym, ◌∙◌, subst, arith, length-append}, lemmas.Bool.Decides.{nat_tests}}, specs.{Str.{str_to_ascii_lowercase}, Prelude.{bytes_eq, codes, take, drop, IfSome, unwrap_or, if◌then◌else◌}, Option.{option_map}}}
use Rattle.hc_text.proofs.Basics.{not_some as none_some, or_off_right as or_false, same_some as same_row, some_inj}
use Rattle.hc_range.specs.{Spans.{resolved_span, IsInOrder}, declared.range.{RangeSpec.{RangeSpec, TheVariants.{From, Last}}, Span.{Span}}}
use Rattle.hc_effects.proofs.Vocabulary.{opening_in, given_in, shows_in, Event, Request, Response, HeadCase, asked_in, spec_in, positions_from, positions_by, from_to, number_of, split_at, hyphen, range_of, ranges_read, ranges_in, wanted_of, wanted_part, is_disabled, BoundBy, Showing, showing_in, case_at, consumer_heard, consumer_acted, consumer_made, consumer_after, by_opening, waiting, denial, Entry, Contents, promised_bytes, promise_of, entry_of, Gives, move_of, reads, lo_of, hi_of, Tables, Exchange, Consumer, starts_over, first_tables, after_accepted, after_denied, event, wanted, place}
use Rattle.hc_rules.specs.Refusals as refusals
use Rattle.hc_effects.proofs.{BoundFrom.{BoundFrom, IsRow, IsFounded, IsInterval, IsShown, bound_from}, BoundKeeps.{shown_place_is}, ConsumerFilters.{acted, given_by}, ExchangeFrom.{ExchangeFrom, IsHeaded, exchange_from}, Fills.{Brings, brings, length_same}, FirstKeeps.{is_new}, Forward.{is_kept}, GivenNext.{given_next}, Givers.{gives_of, some_want}, MoveBy.{move_by}, PollActs.{ToOne, to_one}, Said.{IsShowing, showing_by}, ShownFrom.{ShownAs, shown_from}, ShownStays.{IsFallback, StaysOrIdle, shown_stays}, TurnPlaces.{is_after}, Step.{Step}}
use Rattle.hc_effects.proofs.BoundFrom as from
use Rattle.hc_effects.proofs.ExchangeFrom as exchange
use Rattle.hc_effects.proofs.Fills as fills_by
use Rattle.hc_effects.proofs.PollActs as acts_to
use Rattle.hc_effects.proofs.ShownFrom as shown_as
use Rattle.hc_effects.proofs.ShownOnce as shown_once
use Rattle.hc_effects.proofs.ShownStays as stands

-- INTERVALS

from_order : (a b : Option ℕ) (asked : RangeSpec) → from_to a b ≡ Some asked → IsInOrder asked
from_order a b asked is = grind (arith, nat_tests)

map_order : (o : Option ℕ) (f : ℕ → RangeSpec) (asked : RangeSpec) → ((n : ℕ) → IsInOrder (f n)) → option_map f o ≡ Some asked → IsInOrder asked
map_order None f asked all is = absurd (none_some asked is)
map_order (Some n) f asked all is = subst IsInOrder (some_inj (f n) asked is) (all n)

positions_order : (first last : List ℕ) (asked : RangeSpec) → positions_by first last ≡ Some asked → IsInOrder asked
positions_order [] last asked is = map_order (number_of last) Last asked (λ n. tt) is
positions_order (b ∷ first) [] asked is = map_order (number_of (b ∷ first)) From asked (λ n. tt) is
positions_order (b ∷ first) (d ∷ last) asked is = from_order (number_of (b ∷ first)) (number_of (d ∷ last)) asked is

split_order : (o : Option (List ℕ × List ℕ)) (asked : RangeSpec) → positions_from o ≡ Some asked → IsInOrder asked
split_order None asked is = absurd (none_some asked is)
split_order (Some (first, last)) asked is = positions_order first last asked is

if_order : (b : Bool) (o : Option RangeSpec) (asked : RangeSpec) → ((z : RangeSpec) → o ≡ Some z → IsInOrder z) → (if b then o else None) ≡ Some asked →
    IsInOrder asked
if_order true o asked all is = all asked is
if_order false o asked all is = absurd (none_some asked is)

asked_order : (text : List ℕ) (asked : RangeSpec) → asked_in text ≡ Some asked → IsInOrder asked
unfolding asked_in
asked_order text asked is =
    if_order (bytes_eq (str_to_ascii_lowercase (take 6 text)) (codes "bytes=")) (spec_in (drop 6 text)) asked
    (λ z it. split_order (split_at hyphen (drop 6 text)) z it) is

values_order : (values : List (List ℕ)) (asked : RangeSpec) → unwrap_or (ranges_read values) None ≡ Some asked → IsInOrder asked
values_order [] asked is = absurd (none_some asked is)
values_order (value ∷ []) asked is = by_read (asked_in value) refl is
  where
    by_read : (o : Option RangeSpec) → asked_in value ≡ o → unwrap_or (option_map Some o) None ≡ Some asked → IsInOrder asked
    by_read None read h = absurd (none_some asked h)
    by_read (Some z) read h = asked_order value asked (read ∙ h)
values_order (value ∷ other ∷ values) asked is = absurd (none_some asked is)

-- a range that is read is in order
pub range_order : (request : Request) (asked : RangeSpec) → range_of request ≡ Some asked → IsInOrder asked
unfolding range_of
range_order request asked is = by_test (is_disabled request) is
  where
    by_test : (b : Bool) → (if b then None else unwrap_or (ranges_read (ranges_in request.fields)) None) ≡ Some asked → IsInOrder asked
    by_test true h = absurd (none_some asked h)
    by_test false h = values_order (ranges_in request.fields) asked h

resolved_proper : (asked : RangeSpec) (total : ℕ) (span : Span) → IsInOrder asked → resolved_span asked total ≡ Some span → span.lo ≤ span.hi
resolved_proper asked total span order is = grind (arith, nat_tests)

part_proper : (o : Option Span) (span : Span) → ((z : Span) → o ≡ Some z → z.lo ≤ z.hi) → wanted_part o ≡ wanted.Interval span → span.lo ≤ span.hi
part_proper None span proper is = absurd (let no : wanted.Unsatisfiable ≡ wanted.Interval span = is in cc)
part_proper (Some z) span proper is = let same : z ≡ span = cc in subst (λ (q : Span). q.lo ≤ q.hi) same (proper z refl)

whole_span : (n : ℕ) (span : Span) → wanted.Interval (record { lo = 0; hi = n }) ≡ wanted.Interval span → span.lo ≤ span.hi
whole_span n span is = let same : record { lo = 0; hi = n } ≡ span = cc in subst (λ (q : Span). q.lo ≤ q.hi) same (omega arith)

pub wanted_proper : (range : Option RangeSpec) (o : Option ℕ) (span : Span) → ((asked : RangeSpec) → range ≡ Some asked → IsInOrder asked) →
    wanted_of range o ≡ wanted.Interval span → span.lo ≤ span.hi
wanted_proper range None span order is = absurd (let no : wanted.TotalUnknown ≡ wanted.Interval span = is in cc)
wanted_proper None (Some n) span order is = whole_span n span is
wanted_proper (Some asked) (Some n) span order is = part_proper (resolved_span asked n) span (λ z found. resolved_proper asked n z (order asked refl) found) is

interval_proper : (request : Request) (o : Option ℕ) (lo hi : ℕ) → IsInterval (wanted_of (range_of request) o) lo (Some hi) → lo ≤ hi
interval_proper request o lo hi i =
    let le : i.span.lo ≤ i.span.hi = wanted_proper (range_of request) o i.span (range_order request) i.wanted_is in
    let first : i.span.lo ≡ lo = i.from in
    let last : i.span.hi ≡ hi = some_inj i.span.hi hi i.to in
    omega arith

-- IT IS BOUNDED

pub record IsBounded (t : Tables) : Type 0 where
  pub proper : (c r lo hi : ℕ) (how : BoundBy) (k : Consumer) → t.consumer c ≡ Some k → k.place ≡ place.Bound r lo (Some hi) how → lo ≤ hi
  pub first : (c r lo : ℕ) (how : BoundBy) (k : Consumer) → t.consumer c ≡ Some k → k.place ≡ place.Bound r lo None how → lo ≡ 0
  pub fresh : (c : ℕ) (k : Consumer) → t.consumer c ≡ Some k → k.shown ≡ false → k.given ≡ 0
  pub within : (c r lo hi : ℕ) (how : BoundBy) (k : Consumer) → t.consumer c ≡ Some k → k.place ≡ place.Bound r lo (Some hi) how → lo + k.given ≤ hi
  pub promise : (x p : ℕ) (w : Exchange) → t.exchange x ≡ Some w → promised_bytes w ≡ Some p → length w.body ≤ p

made_given : (c now : ℕ) (ev : Event) (u : Consumer) → consumer_made c now ev ≡ Some u → u.given ≡ 0
made_given c now ev u h = grind (arith, nat_tests)

new_given : (t : Tables) (e : Entry) (c : ℕ) (q : Option Consumer) (u : Consumer) → q ≡ None → consumer_after t e c q ≡ Some u → u.given ≡ 0
unfolding consumer_after
new_given t e c None u none h = made_given c e.now e.event u h
new_given t e c (Some k) u none h = absurd (let no : Some k ≡ None = none in cc)

module _ (step : Step) where
  open step use {limits, tables as t, now, flaw, sound as s, event as ev, accepted as goes}

  abbrev e : Entry
  e = entry_of limits t now ev flaw

  abbrev now_on : Tables
  now_on = after_accepted t e

  -- WHERE IT READS

  module _ (c r lo : ℕ) (hi : Option ℕ) (how : BoundBy) (u : Consumer) where
    abbrev came : Type 0
    came = BoundFrom t e c r lo hi how u

    shown_plan : (k : Consumer) (z : Showing) → IsRow t e c r lo hi how k u → showing_in e.acts ≡ Some z →
        IsShown t e c r lo hi how z (by_opening t c (opening_in e.acts) (waiting t e c (consumer_heard t e c ev k))).place → ShownAs t now z.c k z.r z.lo z.hi
    shown_plan k z row is all =
        let shows = showing_by limits t now flaw s ev goes z is in
        let placed : (by_opening t c (opening_in e.acts) (waiting t e c (consumer_heard t e c ev k))).place ≡ k.place =
        subst (λ d. (by_opening t d (opening_in e.acts) (waiting t e d (consumer_heard t e d ev k))).place ≡ k.place) all.at
        (shown_place_is limits t now flaw s ev goes z k is) in
        let free : reads k.place ≡ false = sym (ap reads placed) ∙ all.free in
        let row_z : t.consumer z.c ≡ Some k = ap t.consumer all.at ∙ row.row in
        let one : shows.k ≡ k = same_row (t.consumer z.c) shows.k k shows.poll.row row_z in
        let show : IsShowing z (move_of t now shows.want z.c k) = subst (λ (q : Consumer). IsShowing z (move_of t now shows.want z.c q)) one shows.move in
        (shown_from t now z.c k shows.want z s row_z show free).shown_as

  module _ (b : IsBounded t) where
    founded_proper : (c r lo hi : ℕ) (how : BoundBy) (x : ℕ) (response : Response) (w : Exchange) (k : Consumer) (g : Option HeadCase) →
        IsFounded t e c r lo (Some hi) how x response w k g → lo ≤ hi
    founded_proper c r lo hi how x response w k _ (from.whole lo_is hi_is) = rw lo_is (omega arith)
    founded_proper c r lo hi how x response w k _ (from.replaced lo_is hi_is) = rw lo_is (omega arith)
    founded_proper c r lo hi how x response w k _ (from.part i) = interval_proper k.request _ lo hi i

    shown_proper : (c r lo hi : ℕ) (k : Consumer) (z : Showing) → z.lo ≡ lo → z.hi ≡ Some hi → ShownAs t now z.c k z.r z.lo z.hi → lo ≤ hi
    shown_proper c r lo hi k z from_is to_is (shown_as.joins v current_is there on lo_is hi_is) = let zero : lo ≡ 0 = sym from_is ∙ lo_is in
        rw zero (omega arith)
    shown_proper c r lo hi k z from_is to_is (shown_as.stored v span current_is there off wanted_is none lo_is hi_is) =
        let le : span.lo ≤ span.hi = wanted_proper (range_of k.request) v.head.total span (range_order k.request) wanted_is in
        let first : lo ≡ span.lo = sym from_is ∙ lo_is in
        let last : span.hi ≡ hi = some_inj span.hi hi (sym hi_is ∙ to_is) in
        omega arith

    proper_by : (c r lo hi : ℕ) (how : BoundBy) (u : Consumer) → BoundFrom t e c r lo (Some hi) how u → lo ≤ hi
    proper_by c r lo hi how u (from.stays k row at) = b.proper c r lo hi how k row.row at
    proper_by c r lo hi how u (from.founds k x response w row here exchange_row mine of_r by_is all) =
        founded_proper c r lo hi how x response w k (case_at t e) all
    proper_by c r lo hi how u (from.opens k p row opens mine free way hole) =
        interval_proper (waiting t e c (consumer_heard t e c ev k)).request hole.v.head.total lo hi hole.interval
    proper_by c r lo hi how u (from.shows k z row is all) = shown_proper c r lo hi k z all.from all.to (shown_plan c r lo (Some hi) how u k z row is all)

    founded_first : (c r lo : ℕ) (how : BoundBy) (x : ℕ) (response : Response) (w : Exchange) (k : Consumer) (g : Option HeadCase) →
        IsFounded t e c r lo None how x response w k g → lo ≡ 0
    founded_first c r lo how x response w k g it9 = grind (arith, nat_tests)

    shown_first : (lo : ℕ) (k : Consumer) (z : Showing) → z.lo ≡ lo → z.hi ≡ None → ShownAs t now z.c k z.r z.lo z.hi → lo ≡ 0
    shown_first lo k z from_is to_is (shown_as.joins v current_is there on lo_is hi_is) = sym from_is ∙ lo_is
    shown_first lo k z from_is to_is (shown_as.stored v span current_is there off wanted_is none lo_is hi_is) = absurd (none_some span.hi (sym to_is ∙ hi_is))

    first_by : (c r lo : ℕ) (how : BoundBy) (u : Consumer) → BoundFrom t e c r lo None how u → lo ≡ 0
    first_by c r lo how u (from.stays k row at) = b.first c r lo how k row.row at
    first_by c r lo how u (from.founds k x response w row here exchange_row mine of_r by_is all) = founded_first c r lo how x response w k (case_at t e) all
    first_by c r lo how u (from.opens k p row opens mine free way hole) = absurd (let no : Some hole.interval.span.hi ≡ None = hole.interval.to in cc)
    first_by c r lo how u (from.shows k z row is all) = shown_first lo k z all.from all.to (shown_plan c r lo None how u k z row is all)

    -- HOW MUCH IT WAS GIVEN

    given_is : (c : ℕ) (k u : Consumer) → t.consumer c ≡ Some k → now_on.consumer c ≡ Some u → u.given ≡ k.given + length (given_in c e.acts)
    given_is c k u row after =
        let on = is_kept t e c k row in
        let one : on.u ≡ u = same_row (now_on.consumer c) on.u u on.row after in
        sym (ap (λ (z : Consumer). z.given) (on.is ∙ one)) ∙
        (given_by (starts_over t e c k) t e c k (consumer_acted t e c (consumer_heard t e c ev k)) ∙ (acted t e c k).given_is)

    fresh_by : (c : ℕ) (q : Option Consumer) (u : Consumer) → t.consumer c ≡ q → now_on.consumer c ≡ Some u → u.shown ≡ false → u.given ≡ 0
    fresh_by c None u row after off = new_given t e c (t.consumer c) u row after
    fresh_by c (Some k) u row after off =
        let its = is_after t e c k u row after in
        let before : k.shown ≡ false = or_false (shows_in c e.acts) k.shown (sym its.shown ∙ off) in
        let none : length (given_in c e.acts) ≡ 0 = ap (λ (xs : List ℕ). length xs) ((shown_once.by_event limits t now c flaw ev).before k row before) in
        let had : k.given ≡ 0 = b.fresh c k row before in
        let sum : u.given ≡ k.given + length (given_in c e.acts) = given_is c k u row after in
        omega arith

    module _ (a : IsFallback t) where
      -- who is given something stays within its end
      given_within : (c r lo hi : ℕ) (how : BoundBy) (k : Consumer) → t.consumer c ≡ Some k → k.shown ≡ true → k.place ≡ place.Bound r lo (Some hi) how →
          ToOne t now c ev e.acts → lo + (k.given + length (given_in c e.acts)) ≤ hi
      given_within c r lo hi how k row on at (acts_to.quiet none quiet off) =
          let zero : length (given_in c e.acts) ≡ 0 = ap (λ (xs : List ℕ). length xs) none in
          let had : lo + k.given ≤ hi = b.within c r lo hi how k row at in
          omega arith
      given_within c r lo hi how k row on at (acts_to.shows want q r1 why head lo1 hi1 is_at there move none some showing) =
          let zero : length (given_in c e.acts) ≡ 0 = ap (λ (xs : List ℕ). length xs) none in
          let had : lo + k.given ≤ hi = b.within c r lo hi how k row at in
          omega arith
      given_within c r lo hi how k row on at (acts_to.gives want q run is_at there move bytes quiet off) =
          let one : q ≡ k = same_row (t.consumer c) q k there row in
          let its : move_of t now want c k ≡ Gives run = sym (ap (move_of t now want c) one) ∙ move in
          let g = given_next t want c k run s (some_want t c want ev goes is_at) (λ x stood. a.apart.unfounded c x k row stood)
          (gives_of t now c want k run (move_of t now want c k) (move_by t now want c k s row) its on) in
          let le : run.at + length run.bytes ≤ hi = subst (λ z. IfSome z (λ n. run.at + length run.bytes ≤ n)) (ap (hi_of t) at) g.1.within in
          let first : lo_of t k.place ≡ lo = ap (lo_of t) at in
          let start : run.at ≡ lo_of t k.place + k.given = g.1.at_is in
          let count : length (given_in c e.acts) ≡ length run.bytes = ap (λ (xs : List ℕ). length xs) bytes in
          omega arith

      within_by : (c r lo hi : ℕ) (how : BoundBy) (u : Consumer) (q : Bool) (k : Consumer) → t.consumer c ≡ Some k → k.shown ≡ q →
          now_on.consumer c ≡ Some u → u.place ≡ place.Bound r lo (Some hi) how → lo ≤ hi → lo + u.given ≤ hi
      within_by c r lo hi how u false k row off after at proper =
          let none : length (given_in c e.acts) ≡ 0 = ap (λ (xs : List ℕ). length xs) ((shown_once.by_event limits t now c flaw ev).before k row off) in
          let had : k.given ≡ 0 = b.fresh c k row off in
          let sum : u.given ≡ k.given + length (given_in c e.acts) = given_is c k u row after in
          omega arith
      within_by c r lo hi how u true k row on after at proper = by_place (shown_stays step a c k row on u after)
        where
          by_place : StaysOrIdle k.place u.place → lo + u.given ≤ hi
          by_place (stands.idle i) = absurd (subst stands.IsIdle at i)
          by_place (stands.same is) =
              let le : lo + (k.given + length (given_in c e.acts)) ≤ hi = given_within c r lo hi how k row on (sym is ∙ at) (to_one t now c limits flaw ev) in
              let sum : u.given ≡ k.given + length (given_in c e.acts) = given_is c k u row after in
              omega arith

      within_row : (c r lo hi : ℕ) (how : BoundBy) (u : Consumer) (q : Option Consumer) → t.consumer c ≡ q → now_on.consumer c ≡ Some u →
          u.place ≡ place.Bound r lo (Some hi) how → lo ≤ hi → lo + u.given ≤ hi
      within_row c r lo hi how u None row after at proper = let none : u.given ≡ 0 = new_given t e c (t.consumer c) u row after in omega arith
      within_row c r lo hi how u (Some k) row after at proper = within_by c r lo hi how u k.shown k row refl after at proper

      -- WHAT AN EXCHANGE BRINGS

      piece_fits : (y p : ℕ) (bytes : List ℕ) (w : Exchange) → t.exchange y ≡ Some w → promised_bytes w ≡ Some p → denial t (event.Piece y bytes) ≡ None →
          length w.body + length bytes ≤ p
      unfolding refusals.refusal_of
      piece_fits y p bytes w row is h = grind (arith, nat_tests)

      brought : (y p : ℕ) (w z : Exchange) → t.exchange y ≡ Some w → promised_bytes w ≡ Some p → Brings t e y w z → length z.body ≤ p
      brought y p w z row is (fills_by.still none same) =
          let count : length z.body ≡ length w.body = ap (λ (xs : List ℕ). length xs) same in
          let le : length w.body ≤ p = b.promise y p w row is in
          omega arith
      brought y p w z row is (fills_by.more bytes here more) =
          let count : length z.body ≡ length w.body + length bytes = ap (λ (xs : List ℕ). length xs) more ∙ length-append w.body bytes in
          let le : length w.body + length bytes ≤ p = piece_fits y p bytes w row is (sym (ap (denial t) here) ∙ goes) in
          omega arith

      promise_by : (y p : ℕ) (z : Exchange) → promised_bytes z ≡ Some p → now_on.exchange y ≡ Some z → ExchangeFrom t e y z → length z.body ≤ p
      promise_by y p z is after (exchange.was w row same) = by_heard same.heard_or
        where
          by_heard : ((z.head ≡ w.head) × (z.joined ≡ w.joined)) ⊎ IsHeaded t e y w z → length z.body ≤ p
          by_heard (inl still) = brought y p w z row (sym (ap promise_of (length_same w z same.need_is same.request_is still.0)) ∙ is)
              (brings t e y w z row after)
          by_heard (inr got) =
              let new = is_new limits t now flaw s ev goes y got.response w got.at row in
              let empty : z.body ≡ [] = got.body_is ∙ (s.waits.headless y w row new.bare).0 in
              let zero : length z.body ≡ 0 = ap (λ (xs : List ℕ). length xs) empty in
              omega arith
      promise_by y p z is after (exchange.new q none opens here made) =
          let zero : length z.body ≡ 0 = sym (ap (λ (w : Exchange). length w.body) made) in
          omega arith

      pub bounded_kept : IsBounded now_on
      bounded_kept = record {
        proper = λ c r lo hi how u after at. proper_by c r lo hi how u (bound_from t e c r lo (Some hi) how (t.consumer c) u refl after at);
        first = λ c r lo how u after at. first_by c r lo how u (bound_from t e c r lo None how (t.consumer c) u refl after at);
        fresh = λ c u after off. fresh_by c (t.consumer c) u refl after off;
        within = λ c r lo hi how u after at. within_row c r lo hi how u (t.consumer c) refl after at
            (proper_by c r lo hi how u (bound_from t e c r lo (Some hi) how (t.consumer c) u refl after at));
        promise = λ x p z after is. promise_by x p z is after (exchange_from t e x (t.exchange x) z refl after);
      }

pub bounded_begun : (contents : Contents) → IsBounded (first_tables contents)
bounded_begun contents = grind (arith, nat_tests)

pub bounded_denied : (t : Tables) (e : Entry) → IsBounded t → IsBounded (after_denied t e)
bounded_denied t e b = record { proper = b.proper; first = b.first; fresh = b.fresh; within = b.within; promise = b.promise }
