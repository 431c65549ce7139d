-- What a 304 does whose update is refused while what it validates is written for several: that writing is lost.
--
-- Just the exchange of the writing is closed, where nobody survives (`closing_row`, `closing_is`), and what is lost
-- goes (`goes_it`). Whoever reads it fails or goes on with that exchange (`member`), and all others stay (`others`).
-- The consumer of the 304 has the turn and isn't bound to it (`turned_from`), so it stands in the line again.
-- `validated_lost_written` joins this into the tables.
use Rattle.std.{proofs.{lemmas.Bool.Decides.{nat_tests}, Common.{arith, ◌≡◌, inl, inr, ℕ, ◌+◌, List, [], ◌∷◌, ◌++◌, Bool, true, false, Option, Some, None, refl, ap, sym, ◌∙◌, subst}}, specs.{Prelude.{◌&&◌, ◌==◌, not, nat_eq, if◌then◌else◌, is_some, option_map, map, filter, reverse}, Option.{option_or}}}
use mathlib.Core.Path.{fun_ext}
use Rattle.hc_text.proofs.Basics.{and_left, bool_cases, eqb-same, not_some as none_some, never_true as not_so, not_true, or_false as or_off, same_some as same_row}
use Rattle.hc_effects.proofs.Vocabulary.{act, cause, case, route, place, LostKind, Event, Response, HeadView, Limits, head_case, route_of, Place, BoundBy, accepted_acts, loss_acts, case_at, head_view, is_joining, closing, closes_row, must_close, consumer_after, back_in_line, is_number, denial, doomed_key_of, Does, with_event, as_gone, let_go, all_closed, with_consumer, with_representation, with_answer, lost_to, left_with, if_bound, group_lost, unless_survived, Entry, exchange_heard, Flaw, Loses, becomes_gone, Lawful, IsAwaiting, is_written, is_bound_place, representation_after, Tables, Exchange, Representation, Consumer, IsBound, after_accepted, loses_group, survivor}
use Rattle.hc_event.specs.declared.event.Event.TheVariants as event
use Rattle.hc_model.specs.Owners as owners
use Rattle.hc_model.specs.Sound as sound
use Rattle.hc_effects.proofs.{Basics.{false_true, number_is}, Closed.{reversed}, FoundBy.{CaseBy, case_by, unchanged_founds}, HasBound.{bound_at}, HeadFacts.{new, waiter, undue, case_on, case_before, evicts_none}, HeadFrames.{e, far, loses_as, apart, doomed_is, goes_by, goes_lost, rows_but, row_loses, other_row, asker_goes_back, after_head}, LostFrames.{goes_on_as, member_as, closed_with, writer_now, closed_row, closed_apart, no_survivor_as}, OfConsumers.{one_of, descends_once, and_so}, PieceKeeps.{eq_cases}, PieceServes.{quiet_acts}, SameTables.{is_in, in_one, waits_for_any, back_from_any}, Sums.{reverse_once}, Untouched.{IsSpared, consumer_absent}}
use Rattle.hc_effects.proofs.FoundBy as cases

pub by_turn : {z : HeadView} → CaseBy z case.NotValidated → (route_of z.need ≡ route.Turn) × (z.status ≡ 304)
by_turn (cases.not_validated way status) = (way, status)

module _ (limits : Limits) (t : Tables) (law : Lawful t) (now x : ℕ) (response : Response) (goes : denial t (event.Head x response) ≡ None) (w : Exchange)
    (row : t.exchange x ≡ Some w) (k : Consumer) (asker : t.consumer w.c ≡ Some k) (r : ℕ) (v : Representation) (aim : w.aim ≡ Some r)
    (there : t.representation r ≡ Some v)
    (kind : LostKind) (on : is_written t v ≡ true) (is : head_case (head_view t true w response) ≡ case.NotValidated) where
  abbrev ev : Event
  ev = event.Head x response

  abbrev flaw : Flaw
  flaw = Loses r kind

  -- what is closed
  abbrev xs : List ℕ
  xs = unless_survived (survivor t r v) v.writer

  abbrev it : Entry
  it = e t now x response [] flaw xs

  -- the entry as the closings see it
  abbrev b : Entry
  b = record { now = now; event = ev; acts = loss_acts flaw }

  is_it : case_at t it ≡ Some case.NotValidated
  is_it = case_on limits t law now x response goes w row [] xs flaw case.NotValidated is

  is_b : case_at t b ≡ Some case.NotValidated
  is_b = case_before limits t law now x response goes w row flaw case.NotValidated is

  doomless_it : doomed_key_of t it ≡ None
  doomless_it = doomed_is t now x response [] flaw xs w row case.NotValidated is_it

  doomless_b : doomed_key_of t b ≡ None
  unfolding doomed_key_of
  doomless_b = rw (row, is_b) refl

  kept : v.is_lost ≡ false
  unfolding is_written
  kept = not_true v.is_lost (and_left (not v.is_lost) _ on)

  losing_it : loses_group t it r v ≡ true
  losing_it = rw (loses_as t now x response [] flaw xs r, eqb-same r, on) refl

  losing_b : loses_group t b r v ≡ true
  losing_b = rw (eqb-same r, on) refl

  only_b : (q : ℕ) (u : Representation) → nat_eq r q ≡ false → t.representation q ≡ Some u → loses_group t b q u ≡ false
  only_b q u other here = rw other refl

  -- WHAT IS CLOSED

  closing_row : (y : ℕ) → closes_row t b y (t.exchange y) ≡ is_number (closed_with t b law r v there losing_b) y
  closing_row y = by_row (t.exchange y) refl
    where
      -- it is open, and isn't that of the head
      opened : (u : Exchange) → t.exchange y ≡ Some u → is_number (closed_with t b law r v there losing_b) y ≡ true → (exchange_heard t b y ev u).is_open ≡ true
      opened u here named =
          let at = number_is (closed_with t b law r v there losing_b) y named in
          let z = writer_now t b law r v there losing_b in
          let one : z.w ≡ u = same_row (t.exchange y) z.w u (closed_row t b law r v there losing_b y at) here in
          elim (eq_cases x y) [
            | inl same ↦ absurd (
                let mine : u ≡ w = same_row (t.exchange x) u w (ap t.exchange same.1 ∙ here) row in
                let bare : is_some z.w.head ≡ false = ap (λ (q : Exchange). is_some q.head) (one ∙ mine) ∙
                ap is_some (new limits t law now x response goes w row).bare in
                false_true (sym bare ∙ z.headed))
            | inr other ↦ rw other.0 (sym (ap (λ (q : Exchange). q.is_open) one) ∙ z.is_open)
          ]

      must_as : (u : Exchange) → t.exchange y ≡ Some u → must_close t b y u ≡ is_number (closed_with t b law r v there losing_b) y
      must_as u here = rw (is_b, doomless_b, no_survivor_as t b law r v there losing_b only_b y u here)
          (or_off (is_number (closed_with t b law r v there losing_b) y))

      by_row : (o : Option Exchange) → t.exchange y ≡ o → closes_row t b y o ≡ is_number (closed_with t b law r v there losing_b) y
      by_row None none = sym (not_so (is_number (closed_with t b law r v there losing_b) y)
          (λ named. none_some _ (sym none ∙ closed_row t b law r v there losing_b y (number_is (closed_with t b law r v there losing_b) y named))))
      by_row (Some u) here =
          ap (λ z. z && (exchange_heard t b y ev u).is_open) (must_as u here)
          ∙ and_so (is_number (closed_with t b law r v there losing_b) y) (exchange_heard t b y ev u).is_open (opened u here)

  closing_is : closing t b ≡ xs
  unfolding closing
  closing_is =
      ap (λ (test : ℕ → Bool). filter test (reverse t.openings)) (fun_ext closing_row)
      ∙ one_of (closed_with t b law r v there losing_b) (reverse t.openings)
      (reverse_once t.openings (descends_once (t.opened + 1) t.openings law.order.openings))
      (λ y at. reversed y t.openings (law.sound.numbered.lists.opened y (ap is_some (closed_row t b law r v there losing_b y at))))

  by_case : (route_of w.need ≡ route.Turn) × (response.status ≡ 304)
  by_case = by_turn (subst (CaseBy (head_view t true w response)) is (case_by (head_view t true w response)))

  acts_are : accepted_acts limits t now ev flaw ≡ act.Lost r kind ∷ map act.Close xs
  acts_are =
      ap (λ rs. map act.Evicted rs ++ (act.Lost r kind ∷ map act.Close (closing t b)))
      (evicts_none limits t law now x response goes w row (unchanged_founds (head_view t false w response) by_case.1))
      ∙ ap (λ ys. act.Lost r kind ∷ map act.Close ys) closing_is

  -- WHAT GOES

  abbrev rs : List ℕ
  rs = r ∷ []

  goes_it : (q : ℕ) (u : Representation) → t.representation q ≡ Some u → becomes_gone t it q u ≡ is_in rs q
  goes_it q u here = elim (eq_cases r q) [
    | inl same ↦ goes_lost t now x response [] flaw xs w row case.NotValidated is_it q u (rw same.0 refl) ∙ rw same.0 refl
    | inr other ↦
        let unclosed : is_in xs q ≡ false = in_one (closed_with t b law r v there losing_b) q ∙
        not_so (is_number (closed_with t b law r v there losing_b) q) (λ named.
        other.1 (closed_apart t b law r v there losing_b q u (number_is (closed_with t b law r v there losing_b) q named) here)) in
        goes_by t now x response [] flaw xs w row case.NotValidated is_it q u unclosed doomless_it ∙ rw (aim, other.0) refl
  ]

  lost_row : representation_after t it r (t.representation r) ≡ (if is_in rs r then option_map as_gone (Some (lost_to (survivor t r v) v)) else
      Some (lost_to (survivor t r v) v))
  lost_row =
      row_loses t now x response [] flaw xs w row case.NotValidated is_it r v there (survivor t r v) kept (rw (eqb-same r) refl)
      (goes_on_as t it law r v there losing_it) (goes_it r v there ∙ rw (eqb-same r) refl)
      ∙ rw (eqb-same r) refl

  rows : (q : ℕ) → representation_after t it q
      (t.representation q) ≡ (if is_in rs q then option_map as_gone (if r == q then Some (lost_to (survivor t r v) v) else t.representation q) else
      (if r == q then Some (lost_to (survivor t r v) v) else t.representation q))
  rows = rows_but t now x response [] flaw xs w row case.NotValidated is_it rs goes_it r (Some (lost_to (survivor t r v) v)) lost_row (λ q other. refl)
      (λ q u other here. (rw is_it refl, rw other refl))

  -- WHO READS IT

  spared_at : (p : Place) → is_bound_place r p ≡ false → IsSpared t it p
  spared_at p off = grind (arith, nat_tests)

  others : (d : ℕ) → nat_eq w.c d ≡ false →
      consumer_after t it d (t.consumer d) ≡ option_map (back_from_any now rs)
      (option_map (if_bound r (left_with r (survivor t r v) v.writer d)) (t.consumer d))
  others d other = by_row (t.consumer d) refl
    where
      stays : (u : Consumer) (lo : ℕ) (hi : Option ℕ) (how : BoundBy) → u.place ≡ place.Bound r lo hi how → (a : Bool) →
          back_from_any now rs (if a then record u { own = v.writer } else record u { due = option_or u.due (Some (cause.StoreWrite r)) }) ≡ (if a then
          record u { own = v.writer } else record u { due = option_or u.due (Some (cause.StoreWrite r)) })
      stays u lo hi how at true = let off : waits_for_any rs u.place ≡ false = ap (waits_for_any rs) at in rw off refl
      stays u lo hi how at false = let off : waits_for_any rs u.place ≡ false = ap (waits_for_any rs) at in rw off refl

      member : (u : Consumer) → t.consumer d ≡ Some u → is_bound_place r u.place ≡ true → IsBound t r d u →
          consumer_after t it d (Some u) ≡ Some (back_from_any now rs (if_bound r (left_with r (survivor t r v) v.writer d) u))
      member u here reads (sound.is_bound lo hi how there_it at) =
          member_as t it law r v there losing_it d lo hi how u at (quiet_acts [] xs flaw)
          (apart t now x response [] flaw xs w row case.NotValidated is_it d u other) (far t now x response [] flaw xs d).fails doomless_it
          ∙ (ap Some (sym (stays u lo hi how at (is_number (survivor t r v) d)))
          ∙ ap (λ (q : Bool). Some (back_from_any now rs (if q then left_with r (survivor t r v) v.writer d u else u))) (sym reads))

      by_row : (o : Option Consumer) → t.consumer d ≡ o →
          consumer_after t it d o ≡ option_map (back_from_any now rs) (option_map (if_bound r (left_with r (survivor t r v) v.writer d)) o)
      by_row None here = consumer_absent t it d refl
      by_row (Some u) here = elim (bool_cases (is_bound_place r u.place)) [
        | inl reads ↦ member u here reads (bound_at t r d u u.place here refl reads)
        | inr off ↦
            other_row t now x response [] flaw xs w row case.NotValidated is_it law rs doomless_it goes_it d u (spared_at u.place off) other here
            ∙ ap (λ (q : Bool). Some (back_from_any now rs (if q then left_with r (survivor t r v) v.writer d u else u))) (sym off)
      ]

  -- ITS CONSUMER

  turned_from : is_bound_place r k.place ≡ false
  turned_from = by_await (waiter limits t law now x response goes w row k asker).at
    where
      by_await : IsAwaiting x w k.place → is_bound_place r k.place ≡ false
      by_await (owners.direct way stands) = rw stands refl
      by_await (owners.turn way stands) = rw stands refl
      by_await (owners.hole q lo hi how way aimed stands) = absurd (let no : route.Hole ≡ route.Turn = sym way ∙ by_case.0 in cc)

  asks : consumer_after t it w.c (t.consumer w.c) ≡ Some (back_in_line now k)
  asks = asker_goes_back t now x response [] flaw xs w row case.NotValidated is_it k asker (waiter limits t law now x response goes w row k asker).at
      (undue limits t law now x response goes w row k asker) (rw doomless_it refl) (spared_at k.place turned_from) (spared_at k.place turned_from) refl

  -- one of those who read it goes on, and its consumer stands in the line again
  pub validated_lost_written : Does limits t now ev flaw (act.Lost r kind ∷ map act.Close xs)
      (with_event now ev (let_go now r
      (with_consumer w.c (Some (back_in_line now k))
      (all_closed xs (with_answer now x response w.joined w
      (group_lost r (survivor t r v) v.writer (with_representation r (Some (lost_to (survivor t r v) v)) t)))))))
  validated_lost_written = record {
    acts_are = acts_are;
    tables_are =
        ap (λ acts. after_accepted t (record { now = now; event = ev; acts = acts })) acts_are
        ∙ after_head t now x response [] flaw xs w row case.NotValidated is_it rs t.founded t.used
        (with_representation r (Some (lost_to (survivor t r v) v)) t).representation (group_lost r (survivor t r v) v.writer t).consumer w.joined
        (back_in_line now k) (record {
          joins = ap (λ o. if is_joining o then w.aim else w.joined) is_it;
          founded = refl;
          used = refl;
          representation = rows;
          asker = asks;
          unwaiting = refl;
          others = others;
        });
  }
