-- What is known of an accepted head: its exchange is new, and its consumer waits for it; and what is answered to it.
--
-- The exchange of an accepted head is open and has none yet (`new`), and its consumer waits for it with nothing due
-- (`undue`). Where no writing for several is lost and nothing is doomed, just the exchange of a refused head is closed
-- (`closing_is`). So its consumer goes on, starts over or fails (`goes_on`, `goes_back`, `fails`), and other rows stay
-- (`rows_stay`). `head_does` joins this for the effects of each case.
use Rattle.std.{proofs.{lemmas.Bool.Decides.{nat_tests}, Common.{arith, ◌≡◌, inl, inr, ℕ, ◌+◌, List, [], ◌++◌, Bool, true, false, Option, Some, None, refl, ap, sym, ◌∙◌, subst}}, specs.Prelude.{◌&&◌, ◌||◌, ◌==◌, not, nat_eq, if◌then◌else◌, option_map, map, filter, reverse, is_some}}
use mathlib.Core.Path.{fun_ext}
use Rattle.hc_text.proofs.Basics.{eqb-same, not_some as none_some, or_false as or_off, same_some as same_row, some_inj}
use Rattle.hc_effects.proofs.Vocabulary.{act, write, Cause, Event, Response, HeadCase, Limits, head_case, length_of, is_bad, has_loss, loses_in, accepted_acts, loss_acts, case_at, head_view, is_founding, is_updating, is_joining, closing, closes_row, is_refused, has_no_survivor, is_number, denial, doomed_key_of, doomed_by_case, Does, with_event, let_all_go, all_closed, with_consumer, with_answer, as_gone, Entry, entry_without_acts, promise_in, is_reached, family, Flaw, NoFlaw, Lawful, IsAwaiting, Tables, Exchange, Representation, Consumer, with_item_first, after_accepted, to_front, evicted, is_written, reads, goes_by_case, becomes_gone, sends_back, cause_by_case, consumer_after, back_in_line, representation_after, updates, Place}
use Rattle.hc_event.specs.declared.event.Event.TheVariants as event
use Rattle.hc_model.specs.Owners as owners
use Rattle.hc_effects.proofs.{ActParts.{leaver_lost}, Basics.{some_row}, Closed.{reversed}, FewClosings.{evicts_nothing}, FirstKeeps.{IsNew, is_new, case_is}, HeadFrames.{e, has_as, heard, asker_goes_on, asker_goes_back, asker_fails, after_head, others, goes_by, rows_but, row_by, doomed_is, spared_as}, OfConsumers.{one_of, descends_once}, PieceKeeps.{eq_cases}, SameTables.{is_in, waits_for_any}, Sums.{reverse_once}, Waiters.{IsWaiter, waiter_as, waits_undue}, Untouched.{IsSpared}, Step.{step_of}}

-- a bad head promises nothing
pub stays_open : (w : Exchange) (response : Response) → is_bad (length_of w.need w.request response) ≡ true → is_reached (promise_in w response) 0 ≡ false
stays_open w response bad = grind (arith, nat_tests)

module _ (limits : Limits) (t : Tables) (law : Lawful t) (now x : ℕ) (response : Response) (goes : denial t (event.Head x response) ≡ None) (w : Exchange)
    (row : t.exchange x ≡ Some w) where
  abbrev ev : Event
  ev = event.Head x response

  -- WHOSE IT IS

  pub new : IsNew limits t now NoFlaw law.sound ev goes x w
  new = is_new limits t now NoFlaw law.sound ev goes x response w refl row

  pub unjoined : w.joined ≡ None
  unjoined = (law.sound.waits.headless x w row new.bare).1

  module _ (k : Consumer) (asker : t.consumer w.c ≡ Some k) where
    pub waiter : IsWaiter t w.c x k w
    waiter = waiter_as (step_of limits t now NoFlaw law.sound law.owned ev goes) w.c x k w asker row refl new.is_open new.bare

    -- nothing is due for it
    pub undue : k.due ≡ None
    undue = by_place waiter.at
      where
        by_place : IsAwaiting x w k.place → k.due ≡ None
        by_place (owners.direct way stands) = let d = law.places.direct w.c x k asker stands in
            (d.unheard (ap (λ (z : Exchange). z.head) (same_row (t.exchange x) d.w w d.row row) ∙ new.bare)).undue
        by_place (owners.turn way stands) = (law.places.turn w.c x k asker stands).idle.undue
        by_place (owners.hole r lo hi how way aim stands) =
            let there = some_row (t.representation r) (law.sound.numbered.names.aims x r w row aim) in
            (waits_undue (step_of limits t now NoFlaw law.sound law.owned ev goes) r w.c x lo hi how there.0 k w waiter stands there.1).0

  -- no representation has its number
  pub not_it : (r : ℕ) (v : Representation) → t.representation r ≡ Some v → nat_eq x r ≡ false
  not_it r v there = elim (eq_cases x r) [
    | inl here ↦ absurd (none_some v (sym new.unfounded ∙ (ap t.representation here.1 ∙ there)))
    | inr other ↦ other.0
  ]

  -- THE CASE

  pub case_on : (es xs : List ℕ) (flaw : Flaw) (g : HeadCase) → head_case (head_view t (has_loss (loss_acts flaw)) w response) ≡ g →
      case_at t (e t now x response es flaw xs) ≡ Some g
  case_on es xs flaw g is = case_is t (e t now x response es flaw xs) x response w refl row ∙
      (ap (λ l. Some (head_case (head_view t l w response))) (has_as t now x response es flaw xs) ∙ ap Some is)

  -- THE ACTS

  -- what founds nothing evicts nothing
  pub evicts_none : is_founding (Some (head_case (head_view t false w response))) ≡ false → evicted limits t now ev ≡ []
  evicts_none off = evicts_nothing limits t now ev
      (ap (λ g. if is_founding g then Some write.Slot else None) (case_is t (entry_without_acts now ev) x response w refl row) ∙ rw off refl)

  module _ (flaw : Flaw) (g : HeadCase) (is : head_case (head_view t (has_loss (loss_acts flaw)) w response) ≡ g) where
    -- the entry as the closings see it
    abbrev pub b : Entry
    b = record { now = now; event = ev; acts = loss_acts flaw }

    pub case_before : case_at t b ≡ Some g
    case_before = case_is t b x response w refl row ∙ ap Some is

    -- just the exchange of a head that is refused is closed, where that left it open
    abbrev refuses : Bool
    refuses = is_refused (Some g) && not (is_reached (promise_in w response) 0)

    module _ (spared : (r : ℕ) (v : Representation) → t.representation r ≡ Some v → (loses_in r (loss_acts flaw) && is_written t v) ≡ false) where
      pub no_survivor : (y r : ℕ) (o : Option Representation) → t.representation r ≡ o → has_no_survivor t b y r o ≡ false
      no_survivor y r o there = grind (arith, nat_tests)

      module _ (doomless : doomed_key_of t b ≡ None) where
        closes_as : (y : ℕ) → closes_row t b y (t.exchange y) ≡ is_number (if refuses then Some x else None) y
        closes_as y = elim (eq_cases x y) [
          | inl here ↦ subst (λ z. closes_row t b z (t.exchange z) ≡ is_number (if refuses then Some x else None) z) here.1
              (ap (closes_row t b x) row
              ∙ rw (case_before, eqb-same x, doomless, no_survivor x (family x w) (t.representation (family x w)) refl, leaver_lost flaw, new.is_open)
              (here_by (is_refused (Some g)) (not (is_reached (promise_in w response) 0))))
          | inr other ↦ by_row (t.exchange y) other.0
        ]
          where
            here_by : (a c : Bool) → (((a && true) || false || false || false) && (c && true)) ≡ is_number (if a && c then Some x else None) x
            here_by a c = grind (arith, nat_tests)

            apart_by : (a : Bool) → nat_eq x y ≡ false → false ≡ is_number (if a then Some x else None) y
            apart_by true apart = sym apart
            apart_by false apart = refl

            drop : (a : Bool) → (a && false || false || false || false) ≡ false
            drop a = grind (arith, nat_tests)

            by_row : (o : Option Exchange) → nat_eq x y ≡ false → closes_row t b y o ≡ is_number (if refuses then Some x else None) y
            by_row None apart = apart_by refuses apart
            by_row (Some u) apart = rw (apart, case_before, doomless, no_survivor y (family y u) (t.representation (family y u)) refl, leaver_lost flaw)
                (rw (drop (is_refused (Some g))) (apart_by refuses apart))

        pub closing_is : closing t b ≡ with_item_first (if refuses then Some x else None) []
        unfolding closing
        closing_is =
            ap (λ (test : ℕ → Bool). filter test (reverse t.openings)) (fun_ext closes_as)
            ∙ one_of (if refuses then Some x else None) (reverse t.openings)
            (reverse_once t.openings (descends_once (t.opened + 1) t.openings law.order.openings))
            (λ y at. reversed y t.openings (law.sound.numbered.lists.opened y (there y (test_is refuses y at))))
          where
            test_is : (a : Bool) (y : ℕ) → (if a then Some x else None) ≡ Some y → x ≡ y
            test_is true y at = some_inj x y at
            test_is false y at = absurd (none_some y at)

            there : (y : ℕ) → x ≡ y → is_some (t.exchange y) ≡ true
            there y at = ap is_some (sym (ap t.exchange at) ∙ row)

  -- WHAT IT DOES

  module _ (k : Consumer) (asker : t.consumer w.c ≡ Some k) (flaw : Flaw) (g : HeadCase)
      (is : head_case (head_view t (has_loss (loss_acts flaw)) w response) ≡ g) (doomless : doomed_by_case (Some g) w response ≡ None)
      (spared : (r : ℕ) (v : Representation) → t.representation r ≡ Some v → (loses_in r (loss_acts flaw) && is_written t v) ≡ false) (es : List ℕ)
      (makes_room : evicted limits t now ev ≡ es) (xs : List ℕ)
      (shuts : with_item_first (if is_refused (Some g) && not (is_reached (promise_in w response) 0) then Some x else None) [] ≡ xs) where
    abbrev pub it : Entry
    it = e t now x response es flaw xs

    pub is_it : case_at t it ≡ Some g
    is_it = case_on es xs flaw g is

    doomless_it : doomed_key_of t it ≡ None
    doomless_it = doomed_is t now x response es flaw xs w row g is_it ∙ doomless

    doomless_before : doomed_key_of t (b flaw g is) ≡ None
    unfolding doomed_key_of
    doomless_before = rw (row, case_before flaw g is) doomless

    closes_it : closing t (b flaw g is) ≡ xs
    closes_it = closing_is flaw g is spared doomless_before ∙ shuts

    acts_are : accepted_acts limits t now ev flaw ≡ map act.Evicted es ++ (loss_acts flaw ++ map act.Close xs)
    acts_are = ap (λ rs. map act.Evicted rs ++ (loss_acts flaw ++ map act.Close (closing t (b flaw g is)))) makes_room ∙
        ap (λ ys. map act.Evicted es ++ (loss_acts flaw ++ map act.Close ys)) closes_it

    spared_it : (p : Place) → IsSpared t it p
    spared_it p = λ r lo hi how v at there. spared_as t now x response es flaw xs r v (spared r v there)

    unclosed : (r : ℕ) (v : Representation) → t.representation r ≡ Some v → is_in xs r ≡ false
    unclosed r v there = ap (λ ys. is_in ys r) (sym shuts) ∙ by_test (is_refused (Some g) && not (is_reached (promise_in w response) 0))
      where
        by_test : (a : Bool) → is_in (with_item_first (if a then Some x else None) []) r ≡ false
        by_test true = or_off (nat_eq x r) ∙ not_it r v there
        by_test false = refl

    -- by its case, a loss or to make room
    pub goes_it : (rs : List ℕ) →
        ((r : ℕ) (v : Representation) → t.representation r ≡ Some v →
        (goes_by_case t it r (Some g) w || loses_in r (loss_acts flaw) || is_in es r) ≡ is_in rs r) → (r : ℕ) (v : Representation) →
        t.representation r ≡ Some v → becomes_gone t it r v ≡ is_in rs r
    goes_it rs tests r v there = goes_by t now x response es flaw xs w row g is_it r v (unclosed r v there) doomless_it ∙ tests r v there

    abbrev pub heard_it : Consumer
    heard_it = heard t now x response es flaw xs w g k

    pub goes_on : sends_back (Some g) ≡ false → cause_by_case (Some g) x ≡ None → consumer_after t it w.c (t.consumer w.c) ≡ Some heard_it
    goes_on = asker_goes_on t now x response es flaw xs w row g is_it k asker (waiter k asker).at (undue k asker) (rw doomless_it refl)
        (spared_it k.place) (spared_it heard_it.place)

    pub goes_back : sends_back (Some g) ≡ true → consumer_after t it w.c (t.consumer w.c) ≡ Some (back_in_line now k)
    goes_back = asker_goes_back t now x response es flaw xs w row g is_it k asker (waiter k asker).at (undue k asker) (rw doomless_it refl)
        (spared_it k.place) (spared_it heard_it.place)

    pub fails : (why : Cause) → sends_back (Some g) ≡ false → cause_by_case (Some g) x ≡ Some why → heard_it ≡ k → reads k.place ≡ true →
        consumer_after t it w.c (t.consumer w.c) ≡ Some (record k { due = Some why })
    fails = asker_fails t now x response es flaw xs w row g is_it k asker (waiter k asker).at (undue k asker) (rw doomless_it refl) (spared_it k.place)
        (spared_it heard_it.place)

    module _ (rs : List ℕ) (tests : (r : ℕ) (v : Representation) → t.representation r ≡ Some v →
        (goes_by_case t it r (Some g) w || loses_in r (loss_acts flaw) || is_in es r) ≡ is_in rs r) where
      pub rows : (q : ℕ) (z : Option Representation) → representation_after t it q (t.representation q) ≡ (if is_in rs q then option_map as_gone z else z)
          → ((r : ℕ) → nat_eq q r ≡ false → (is_founding (Some g) && nat_eq x r) ≡ false) →
          ((r : ℕ) (v : Representation) → nat_eq q r ≡ false → t.representation r ≡ Some v → (updates t it r w v ≡ false) ×
          (loses_in r (loss_acts flaw) ≡ false))
          → (r : ℕ) → representation_after t it r
          (t.representation r) ≡ (if is_in rs r then option_map as_gone (if q == r then z else t.representation r) else
          (if q == r then z else t.representation r))
      rows = rows_but t now x response es flaw xs w row g is_it rs (goes_it rs tests)

      pub rows_same : is_founding (Some g) ≡ false →
          ((r : ℕ) (v : Representation) → t.representation r ≡ Some v → (updates t it r w v ≡ false) × (loses_in r (loss_acts flaw) ≡ false)) → (r : ℕ) →
          representation_after t it r (t.representation r) ≡ (if is_in rs r then option_map as_gone (t.representation r) else t.representation r)
      rows_same unfounding stays r = row_by t now x response es flaw xs w row g is_it rs (goes_it rs tests) r (rw unfounding refl) (stays r)

      pub rows_stay : is_founding (Some g) ≡ false → is_updating (Some g) ≡ false →
          ((r : ℕ) (v : Representation) → t.representation r ≡ Some v → loses_in r (loss_acts flaw) ≡ false) → (r : ℕ) →
          representation_after t it r (t.representation r) ≡ (if is_in rs r then option_map as_gone (t.representation r) else t.representation r)
      rows_stay unfounding unupdating unlost = rows_same unfounding (λ r v there. (rw (is_it, unupdating) refl, unlost r v there))

      -- its exchange has it, its consumer is q, and these are let go
      pub head_does : (fs us : List ℕ) (reps : ℕ → Option Representation) (joined : Option ℕ) (q : Consumer) →
          (if is_joining (Some g) then w.aim else w.joined) ≡ joined → with_item_first (if is_founding (Some g) then Some x else None) t.founded ≡ fs →
          to_front (if is_founding (Some g) then Some x else None) t.used ≡ us
          → ((r : ℕ) → representation_after t it r (t.representation r) ≡ (if is_in rs r then option_map as_gone (reps r) else reps r)) →
          consumer_after t it w.c (t.consumer w.c) ≡ Some q → waits_for_any rs q.place ≡ false
          → Does limits t now ev flaw (map act.Evicted es ++ (loss_acts flaw ++ map act.Close xs))
          (with_event now ev (let_all_go now rs
          (with_consumer w.c (Some q) (all_closed xs (with_answer now x response joined w (record t { founded = fs; used = us; representation = reps }))))))
      head_does fs us reps joined q joins founded used representation asks unwaiting = record {
        acts_are = acts_are;
        tables_are =
            ap (λ acts. after_accepted t (record { now = now; event = ev; acts = acts })) acts_are
            ∙ after_head t now x response es flaw xs w row g is_it rs fs us reps t.consumer joined q (record {
              joins = ap (λ o. if is_joining o then w.aim else w.joined) is_it ∙ joins;
              founded = founded;
              used = used;
              representation = representation;
              asker = asks;
              unwaiting = unwaiting;
              others = others t now x response es flaw xs w row g is_it law rs doomless_it (goes_it rs tests) spared_it;
            });
      }
