-- What is stored fits the limit in every run, and few give way.
--
-- That the sum fits is kept by `within_kept`; here the lists are added. What founds has a new number and a row, and
-- what is bound comes to the front of what was used (`still_used`). A denied entry leaves all of it (`fits_denied`). At
-- the beginning items are counted once, since no number is said twice (`once_items`), so the sum is that of their
-- weights (`sum_items`). `fits` is the law; by it few give way (`few_in_runs`).
use Rattle.std.{proofs.{Common.{◌≡◌, ◌⊎◌, inl, inr, ℕ, ◌+◌, ◌≤◌, List, [], ◌∷◌, Bool, true, false, Option, Some, None, refl, ap, sym, ◌∙◌, subst, arith}, lemmas.{Bool.Decides.{nat_tests}, List.Sums.{sum_by-cons}}}, specs.{Prelude.{if◌then◌else◌, is_some, ◌&&◌, ◌||◌, ◌==◌, not, nat_eq, nat_le, filter, find, option_map}, List.{list_any, sum_by}, Option.{option_or}}}
use Rattle.hc_text.proofs.Basics.{not_true, or_right, and_left, and_right, bool_cases, not_some as none_some, some_inj}
use Rattle.hc_effects.proofs.Vocabulary.{Opening, opening_in, is_denied, Event, Response, Act, Limits, head_case, route_of, weight_of, Showing, showing_in, has_loss, accepted_acts, may_begin, are_good, is_good, says, weights_of, case_at, case_of, head_view, is_founding, was_shown, current, is_usable, Entry, Content, Contents, entry_without_acts, exchange_in, flaw_in, entry_of, OfRunsIn, IsSmallPiece, count_evicted, Measures, AreOnce, bound, reads, Tables, Exchange, Representation, Consumer, IsOwed, Among, tables, first_tables, representation_of_content, numbers, bytes_in, founds, with_item_first, is_hole, binds, binds_by_opening, binds_by_showing, to_front, after_accepted, after_denied, weights, event}
use Rattle.hc_model.specs.{Laws.{FitsInRuns, FewInRuns}, Tables.{is_reading}}
use Rattle.hc_effects.proofs.{Basics.{false_true}, Closed.{among_filter}, BoundKeeps.{planned_at, shown_place_is}, FewGiveWay.{few_give_way}, FirstKeeps.{is_new}, LossBy.{IsReal}, Owed.{IsDenied, is_denial, acts_are}, PieceKeeps.{eq_cases}, Said.{showing_by}, ShownFrom.{ShownAs}, Sums.{filter_among, filter_once, reverse_among, reverse_once, reverse_sum}, Weighed.{held, held_in, is_held, total, weights_most}, Step.{Step, step_of}}
use Rattle.hc_laws.proofs.{FitsKept.{Fits, within_kept}, MeasuresBegin.{of_number}, RunFacts.{in_runs}}
use Rattle.hc_effects.proofs.Owed as owed_acts
use Rattle.hc_effects.proofs.RepFrom as rep
use Rattle.hc_effects.proofs.ShownFrom as shown_as

pub find_among : (test : ℕ → Bool) (xs : List ℕ) (r : ℕ) → find test xs ≡ Some r → Among r xs
find_among test [] r h = absurd (none_some r h)
find_among test (x ∷ xs) r h = elim (bool_cases (test x)) [
  | inl passes ↦ inl (some_inj x r (rw passes at h))
  | inr fails ↦ inr (find_among test xs r (rw fails at h))
]

current_among : (t : Tables) (key : List ℕ) (r : ℕ) → current t key ≡ Some r → Among r t.founded
unfolding current
current_among t key r h = find_among (λ q. is_usable key (t.representation q)) t.founded r h

-- AFTER AN ENTRY

module _ (step : Step) (m : Measures step.tables) (f : Fits step.limits step.tables) (real : IsReal step.limits step.tables step.now step.event step.flaw) where
  open step use {limits, tables as t, now, flaw, sound as s, event as ev, accepted as goes}

  abbrev e : Entry
  e = entry_of limits t now ev flaw

  abbrev now_on : Tables
  now_on = after_accepted t e

  -- what is founded is new, and there from now on
  record IsFounded (x : ℕ) : Type 0 where
    none : t.representation x ≡ None
    there : is_some (now_on.representation x) ≡ true

  if_some : (b : Bool) (q : Option ℕ) (x : ℕ) → (if b then q else None) ≡ Some x → (b ≡ true) × (q ≡ Some x)
  if_some true q x h = (refl, h)
  if_some false q x h = absurd (none_some x h)

  founded_row : (x : ℕ) (response : Response) (w : Exchange) → ev ≡ event.Head x response → t.exchange x ≡ Some w → is_founding (case_at t e) ≡ true →
      IsFounded x
  founded_row x response w here row on =
      record {
        none = (is_new limits t now flaw s ev goes x response w here row).unfounded;
        there =
            rep.founds t e x response w (t.representation x) here row on;
      }

  founded_by : (z : Event) → ev ≡ z → (x : ℕ) → founds t e ≡ Some x → IsFounded x
  unfolding case_of
  founded_by (event.Head y response) here x is = by_row (t.exchange y) refl
    where
      both : (is_founding (case_at t e) ≡ true) × (exchange_in ev ≡ Some x)
      both = if_some (is_founding (case_at t e)) (exchange_in ev) x is

      number : y ≡ x
      number = some_inj y x (sym (ap exchange_in here) ∙ both.1)

      by_row : (q : Option Exchange) → t.exchange y ≡ q → IsFounded x
      by_row None row = absurd
          (false_true (sym (ap is_founding
          (ap (case_of t (has_loss e.acts)) here ∙ ap (λ z. option_map (λ w. head_case (head_view t (has_loss e.acts) w response)) z) row)) ∙ both.0))
      by_row (Some w) row = subst IsFounded number (founded_row y response w here row both.0)
  founded_by _ here x is =
      absurd (false_true (sym (ap (λ z. is_founding (case_of t (has_loss e.acts) z)) here) ∙ (if_some (is_founding (case_at t e)) (exchange_in ev) x is).0))

  once_by : (z : Option ℕ) → founds t e ≡ z → AreOnce (with_item_first z t.founded)
  once_by None is = f.once
  once_by (Some x) is = ((λ among. false_true (sym (ap (λ (q : Option Representation). is_some q) (founded_by ev refl x is).none) ∙ f.rows x among)), f.once)

  rows_by : (z : Option ℕ) → founds t e ≡ z → (r : ℕ) → Among r (with_item_first z t.founded) → is_some (now_on.representation r) ≡ true
  rows_by None is r among = rep.stays t e r (t.representation r) (f.rows r among)
  rows_by (Some x) is r (inl here) = ap (λ n. is_some (now_on.representation n)) (sym here) ∙ (founded_by ev refl x is).there
  rows_by (Some x) is r (inr there) = rep.stays t e r (t.representation r) (f.rows r there)

  -- WHO WAS BOUND LAST

  apart_not : (r : ℕ) → Among r (filter (λ q. not (q == r)) t.used) → ⊥
  apart_not r among =
      let off : not (r == r) ≡ true = (filter_among (λ q. not (q == r)) r t.used among).1 in
      let self : nat_eq r r ≡ true = grind (arith, nat_tests) in
      false_true (rw self at off)

  used_by : (z : Option ℕ) → AreOnce (to_front z t.used)
  used_by None = f.used_once
  used_by (Some r) = ((λ among. apart_not r among), filter_once (λ q. not (q == r)) t.used f.used_once)

  more_founded : (z : Option ℕ) (r : ℕ) → Among r t.founded → Among r (with_item_first z t.founded)
  more_founded None r among = among
  more_founded (Some x) r among = inr among

  by_opening_among : (z : Option Opening) (r : ℕ) → binds_by_opening t z ≡ Some r → Among r t.founded
  by_opening_among None r is = absurd (none_some r is)
  by_opening_among (Some q) r is =
      current_among t q.request.key r (if_some (is_hole (route_of q.need) && not (was_shown (t.consumer q.c))) (current t q.request.key) r is).1

  unless_is : (b : Bool) (n r : ℕ) → (if b then None else Some n) ≡ Some r → (b ≡ false) × (n ≡ r)
  unless_is true n r h = absurd (none_some r h)
  unless_is false n r h = (refl, some_inj n r h)

  by_showing_among : (z : Option Showing) (r : ℕ) → showing_in e.acts ≡ z → binds_by_showing t z ≡ Some r → Among r t.founded
  by_showing_among None r shows is = absurd (none_some r is)
  by_showing_among (Some a) r shows is =
      let both = unless_is (is_reading (t.consumer a.c)) a.r r is in
      let by_poll = showing_by limits t now flaw s ev goes a shows in
      let free : reads by_poll.k.place ≡ false = sym (ap is_reading by_poll.poll.row) ∙ both.0 in
      let planned = planned_at limits t now flaw s ev goes a by_poll.k by_poll.poll.row shows
      (ap reads (shown_place_is limits t now flaw s ev goes a by_poll.k shows) ∙ free) in
      subst (λ n. Among n t.founded) both.1 (by_shown by_poll.k planned.shown_as)
    where
      by_shown : (k : Consumer) → ShownAs t now a.c k a.r a.lo a.hi → Among a.r t.founded
      by_shown k (shown_as.joins v current_is row on from_is to) = current_among t k.request.key a.r current_is
      by_shown k (shown_as.stored v span current_is row off wanted_is none from_is to) = current_among t k.request.key a.r current_is

  binds_among : (a b d : Option ℕ) (r : ℕ) → option_or a (option_or b d) ≡ Some r → (a ≡ Some r) ⊎ ((b ≡ Some r) ⊎ (d ≡ Some r))
  binds_among (Some x) b d r is = inl is
  binds_among None (Some x) d r is = inr (inl is)
  binds_among None None d r is = inr (inr is)

  bound_founded : (r : ℕ) → binds t e ≡ Some r → (z : Option ℕ) → founds t e ≡ z → Among r (with_item_first z t.founded)
  bound_founded r is z founds_is = elim (binds_among (founds t e) (binds_by_opening t (opening_in e.acts)) (binds_by_showing t (showing_in e.acts)) r is) [
    | inl founded ↦ by_founded z (sym founds_is ∙ founded)
    | inr other ↦ elim other [
      | inl opened ↦ more_founded z r (by_opening_among (opening_in e.acts) r opened)
      | inr shown ↦ more_founded z r (by_showing_among (showing_in e.acts) r refl shown)
    ]
  ]
    where
      by_founded : (z : Option ℕ) → z ≡ Some r → Among r (with_item_first z t.founded)
      by_founded None h = absurd (none_some r h)
      by_founded (Some x) h = inl (some_inj x r h)

  used_founded_by : (z : Option ℕ) → binds t e ≡ z → (r : ℕ) → Among r (to_front z t.used) → Among r now_on.founded
  used_founded_by None is r among = more_founded (founds t e) r (f.used_founded r among)
  used_founded_by (Some q) is r (inl here) = subst (λ n. Among n now_on.founded) here (bound_founded q is (founds t e) refl)
  used_founded_by (Some q) is r (inr there) = more_founded (founds t e) r (f.used_founded r (filter_among (λ n. not (n == q)) r t.used there).0)

  -- what is bound comes to the front, and all else stays
  still_used : (z : Option ℕ) (r : ℕ) → Among r t.used → Among r (to_front z t.used)
  still_used None r among = among
  still_used (Some q) r among = elim (eq_cases r q) [
    | inl here ↦ inl (sym here.1)
    | inr off ↦ inr (among_filter r (λ n. not (n == q)) t.used (ap not off.0) among)
  ]

  front_used : (q : ℕ) (z : Option ℕ) → z ≡ Some q → Among q (to_front z t.used)
  front_used q None is = absurd (none_some q is)
  front_used q (Some r) is = inl (some_inj r q is)

  founded_used_by : (z : Option ℕ) → founds t e ≡ z → (r : ℕ) → Among r (with_item_first z t.founded) → Among r now_on.used
  founded_used_by None is r among = still_used (binds t e) r (f.founded_used r among)
  founded_used_by (Some x) is r (inl here) =
      subst (λ n. Among n now_on.used) here
      (front_used x (binds t e) (ap (λ z. option_or z (option_or (binds_by_opening t (opening_in e.acts)) (binds_by_showing t (showing_in e.acts)))) is))
  founded_used_by (Some x) is r (inr there) = still_used (binds t e) r (f.founded_used r there)

  pub fits_kept : Fits limits now_on
  fits_kept = record {
    within = within_kept step m f real;
    once = once_by (founds t e) refl;
    rows = λ r among. rows_by (founds t e) refl r among;
    used_once = used_by (binds t e);
    used_founded = λ r among. used_founded_by (binds t e) refl r among;
    founded_used = λ r among. founded_used_by (founds t e) refl r among;
  }

-- A DENIED ENTRY

pub fits_denied : (limits : Limits) (t : Tables) (e : Entry) → Fits limits t → Fits limits (after_denied t e)
unfolding current bound
fits_denied limits t e f =
    record { within = f.within; once = f.once; rows = f.rows; used_once = f.used_once; used_founded = f.used_founded; founded_used = f.founded_used }

-- AT THE BEGINNING

abbrev weight_at : Content → ℕ
weight_at item = weight_of (bytes_in item.runs)

-- what an item comes to
abbrev loaded_held : Contents → ℕ → Option Content → ℕ
loaded_held contents r z = held_in (first_tables contents) r (option_map representation_of_content z)

held_item : (contents : Contents) (r : ℕ) (item : Content) → loaded_held contents r (Some item) ≤ weight_of (bytes_in item.runs)
held_item contents r item = elim (bool_cases (is_held (first_tables contents) r (representation_of_content item))) [
  | inl on ↦ let is : loaded_held contents r (Some item) ≡ weight_of (bytes_in item.runs) = rw on refl in omega arith
  | inr off ↦ let is : loaded_held contents r (Some item) ≡ 0 = rw off refl in omega arith
]

module _ (limits : Limits) (contents : Contents) where
  -- the number of an item is said by no earlier one
  own_number : (earlier : List Content) (item : Content) (later : List Content) → is_good limits contents earlier item later ≡ true →
      list_any (says item.r) earlier ≡ false
  own_number earlier item later good =
      not_true (list_any (says item.r) earlier) (and_right _ _ (and_left _ _ (and_right _ _ (and_left _ _ (and_left _ _ (and_left _ _ (and_left _ _ good)))))))

  any_says : (n : ℕ) (es : List Content) → list_any (of_number n) es ≡ true → list_any (says n) es ≡ true
  any_says n [] h = absurd (false_true h)
  any_says n (a ∷ es) h = elim (bool_cases (of_number n a)) [
    | inl here ↦ rw here refl
    | inr off ↦ by_test (says n a) (any_says n es (rw off at h))
  ]
    where
      by_test : (b : Bool) → list_any (says n) es ≡ true → (b || list_any (says n) es) ≡ true
      by_test true rest = refl
      by_test false rest = rest

  not_later : (n : ℕ) (earlier later : List Content) → are_good limits contents earlier later ≡ true → list_any (of_number n) earlier ≡ true →
      Among n (numbers later) → ⊥
  not_later n earlier [] good has among = absurd among
  not_later n earlier (b ∷ rest) good has (inl here) =
      false_true (sym (own_number earlier b rest (and_left _ _ good)) ∙ any_says b.r earlier (ap (λ k. list_any (of_number k) earlier) here ∙ has))
  not_later n earlier (b ∷ rest) good has (inr there) =
      not_later n (b ∷ earlier) rest (and_right _ _ good) (or_right (of_number n b) (list_any (of_number n) earlier) has) there

  self_number : (item : Content) (earlier : List Content) → list_any (of_number item.r) (item ∷ earlier) ≡ true
  self_number item earlier = let self : nat_eq item.r item.r ≡ true = grind (arith, nat_tests) in rw self refl

  once_items : (earlier items : List Content) → are_good limits contents earlier items ≡ true → AreOnce (numbers items)
  once_items earlier [] good = tt
  once_items earlier (item ∷ later) good = (
    (λ among. not_later item.r (item ∷ earlier) later (and_right _ _ good) (self_number item earlier) among),
    once_items (item ∷ earlier) later (and_right _ _ good),
  )

  -- what the items come to weighs no more than they do
  sum_items : (find_in : ℕ → Option Content) (earlier items : List Content) → are_good limits contents earlier items ≡ true →
      ((n : ℕ) → Among n (numbers items) → find_in n ≡ find (of_number n) items) →
      sum_by (λ n. loaded_held contents n (find_in n)) (numbers items) ≤ sum_by weight_at items
  sum_items find_in earlier [] good found = omega arith
  sum_items find_in earlier (item ∷ later) good found =
      let a : sum_by (λ n. loaded_held contents n (find_in n)) (item.r ∷ numbers later) ≡ loaded_held contents item.r (find_in item.r) + sum_by
      (λ n. loaded_held contents n (find_in n)) (numbers later) = sum_by-cons (λ n. loaded_held contents n (find_in n)) item.r (numbers later) in
      let b : sum_by weight_at (item ∷ later) ≡ weight_at item + sum_by weight_at later = sum_by-cons weight_at item later in
      let self : nat_eq item.r item.r ≡ true = grind (arith, nat_tests) in
      let first : find_in item.r ≡ Some item = found item.r (inl refl) ∙ rw self refl in
      let here : loaded_held contents item.r (find_in item.r) ≡ loaded_held contents item.r (Some item) = ap (loaded_held contents item.r) first in
      let most : loaded_held contents item.r (Some item) ≤ weight_of (bytes_in item.runs) = held_item contents item.r item in
      let rest : sum_by (λ n. loaded_held contents n (find_in n)) (numbers later) ≤ sum_by weight_at later = sum_items find_in
      (item ∷ earlier) later (and_right _ _ good)
      (λ n among. found n (inr among) ∙ later_found n (λ same. not_later n (item ∷ earlier) later (and_right _ _ good) (by_same n same) among)) in
      omega arith
    where
      by_same : (n : ℕ) → item.r ≡ n → list_any (of_number n) (item ∷ earlier) ≡ true
      by_same n same = let test : nat_eq item.r n ≡ true = grind (arith, nat_tests) in rw test refl

      later_found : (n : ℕ) → (item.r ≡ n → ⊥) → find (of_number n) (item ∷ later) ≡ find (of_number n) later
      later_found n other = elim (eq_cases item.r n) [ inl same ↦ absurd (other same.1) | inr off ↦ rw off.0 refl ]

  row_there : (n : ℕ) (items : List Content) → Among n (numbers items) → is_some (option_map representation_of_content (find (of_number n) items)) ≡ true
  row_there n [] among = absurd among
  row_there n (item ∷ later) among = elim (eq_cases item.r n) [
    | inl same ↦ rw same.0 refl
    | inr off ↦ rw off.0 (row_there n later (others among off.1))
  ]
    where
      others : Among n (item.r ∷ numbers later) → (item.r ≡ n → ⊥) → Among n (numbers later)
      others (inl here) other = absurd (other here)
      others (inr there) other = there

  pub fits_begin : may_begin limits contents ≡ true → Fits limits (first_tables contents)
  unfolding may_begin
  fits_begin may =
      let good : are_good limits contents [] contents.items ≡ true = and_left _ _ (and_left _ _ (and_left _ _ (and_left _ _ (and_left _ _ may)))) in
      let once = reverse_once (numbers contents.items) (once_items [] contents.items good) in
      record {
        within = weigh good (and_right _ _ may);
        once = once;
        rows = λ r among. row_there r contents.items (reverse_among r (numbers contents.items) among);
        used_once = once;
        used_founded = λ r among. among;
        founded_used = λ r among. among;
      }
    where
      weigh : are_good limits contents [] contents.items ≡ true → nat_le (weights_of contents.items) limits.max_total ≡ true →
          total (first_tables contents) ≤ limits.max_total
      weigh good test =
          let turned : total (first_tables contents) ≡ sum_by (held (first_tables contents)) (numbers contents.items) =
          reverse_sum (held (first_tables contents)) (numbers contents.items) in
          let most : sum_by (held (first_tables contents)) (numbers contents.items) ≤ sum_by weight_at contents.items =
          sum_items (λ n. find (of_number n) contents.items) [] contents.items good (λ n among. refl) in
          let fits : weights_of contents.items ≤ limits.max_total = grind (arith, nat_tests) in
          omega arith

-- IN RUNS

pub fits : OfRunsIn Fits
fits = in_runs Fits (λ limits contents may. fits_begin limits contents may) (λ limits t e later f. fits_denied limits t e f)
    (λ limits t now flaw later c f ev goes real. fits_kept (step_of limits t now flaw c.is_sound c.is_owned ev goes) c.is_measured f real)

-- All that is stored fits the limit.
pub fits_in_runs : FitsInRuns
fits_in_runs limits contents may h e run =
    let within : total (tables contents h) ≤ limits.max_total = (fits limits contents h may run.0).within in
    let most : weights (tables contents h) e ≤ total (tables contents h) = weights_most (tables contents h) e in
    omega arith

count_none : (acts : List Act) → IsDenied acts → count_evicted acts ≡ 0
count_none _ (owed_acts.denied refusal) = refl

few_by : (limits : Limits) (t : Tables) (e : Entry) (b : Bool) → is_denied e.acts ≡ b → IsOwed limits t e → total t ≤ limits.max_total →
    IsSmallPiece e.event → count_evicted e.acts ≤ 2
few_by limits t e true denied owed within small = let none : count_evicted e.acts ≡ 0 = count_none e.acts (is_denial e.acts denied) in omega arith
few_by limits t e false not_denied owed within small =
    let most : weights t (entry_without_acts e.now e.event) ≤ total t = weights_most t (entry_without_acts e.now e.event) in
    let few : count_evicted (accepted_acts limits t e.now e.event (flaw_in e.acts)) ≤ 2 =
    few_give_way limits t e.now e.event (flaw_in e.acts) (omega arith) small in
    let same : count_evicted e.acts ≡ count_evicted (accepted_acts limits t e.now e.event (flaw_in e.acts)) =
    ap count_evicted (acts_are limits t e owed not_denied) in
    omega arith

-- An entry evicts at most two.
pub few_in_runs : FewInRuns
few_in_runs limits contents may h e run small =
    few_by limits (tables contents h) e (is_denied e.acts) refl run.1 (fits limits contents h may run.0).within small
