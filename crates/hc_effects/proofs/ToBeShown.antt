-- Whoever is bound and wasn't shown a head is to be shown one: it founded, its first hole joined, or it waits for that.
--
-- By how it became bound. Who waits for the head of its first hole has the most work. Few cases of a head are possible
-- then (`first_case`), and by each it is shown the head, sent back or no longer bound there (`by_case`). Any other
-- event leaves it waiting (`others`), and the acts don't move it (`heard_place`). Who opens for a first hole now waits
-- for it (`opened_waits`). `unshown_kept` joins these.
use Rattle.std.{proofs.{Common.{◌≡◌, ◌⊎◌, inl, inr, ℕ, List, length, Bool, true, false, Option, Some, None, refl, ap, sym, ◌∙◌, subst, arith}, lemmas.Bool.Decides.{nat_tests}}, specs.{Prelude.{if◌then◌else◌, is_some, is_none, ◌&&◌, ◌==◌, not, nat_eq}, Option.{option_and_then}}}
use Rattle.hc_text.proofs.Basics.{not_some as none_some, same_some as same_row, some_inj}
use Rattle.hc_effects.proofs.Vocabulary.{Opening, opening_in, leaves_in, shows_in, Event, Response, Wait, HeadCase, head_case, route_of, Place, BoundBy, Showing, has_loss, showing_in, wait_in, case_at, head_view, was_shown, is_joining, consumer_heard, by_head, by_fault, place_by_case, by_opening, shown_place, waiting, waiting_place, own_after, denial, as_open, Entry, exchange_opened, exchange_in, exchange_at, is_for, is_headless, is_open, entry_of, IsAwaiting, has_joined, own_open, if_open, bound_to, Tables, Exchange, Consumer, IsToBeShown, starts_over, sends_back, after_accepted, piece_refusal, event, cause, case, route, by}
use Rattle.hc_rules.specs.Refusals as refusals
use Rattle.hc_event.specs.declared.place.Place.TheVariants as place
use Rattle.hc_model.specs.Sound as sound
use Rattle.hc_effects.proofs.{Basics.{false_true, or_false}, BoundFrom.{BoundFrom, IsRow, bound_from}, ConsumerFilters.{acted}, FirstKeeps.{case_is, is_new, is_opener}, Forward.{is_on, opened_on, is_untouched}, FoundBy.{CaseBy, case_by}, Once.{taken}, OwnersKeep.{is_opened, new_number}, PieceKeeps.{eq_cases}, Said.{shows_it, showing_by, waiting_by}, Waiters.{IsWaiter, waiter_of, heard_same, unclosed, own_acted}, Step.{Step}}
use Rattle.hc_effects.proofs.BoundFrom as bound
use Rattle.hc_effects.proofs.ExchangeFrom as exchange
use Rattle.hc_effects.proofs.FoundBy as cases

-- WHERE NOTHING IS SAID TO IT

-- the place of a consumer to which no act says anything
plain_place : (t : Tables) (c : ℕ) (h : Consumer) (leaves : Bool) (shows : Option Showing) (opens : Option Opening) (waits : Option Wait) →
    leaves ≡ false → shows ≡ None → opens ≡ None → waits ≡ None →
    (if leaves then place.Over else shown_place c shows (by_opening t c opens (record h { place = waiting_place t h waits })).place) ≡ h.place
plain_place t c h leaves shows opens waits a b d f = rw (a, b, d, f) refl

-- THE CASES OF A FIRST HOLE'S HEAD

data FirstCase : HeadCase → Type 0 where
  bad : FirstCase case.FirstBad
  joins : FirstCase case.FirstJoins
  server_error : FirstCase case.FirstServerError
  changed : FirstCase case.FirstChanged
  replaced : FirstCase case.FirstReplaced
  passes_by : FirstCase case.FirstPassesBy

module _ (step : Step) where
  open step use {limits, tables as t, now, flaw, sound as s, owners as o, event as ev, accepted as goes}

  abbrev e : Entry
  e = entry_of limits t now ev flaw

  abbrev now_on : Tables
  now_on = after_accepted t e

  direct_hole : route.Direct ≡ route.Hole → ⊥
  direct_hole h = cc

  turn_hole : route.Turn ≡ route.Hole → ⊥
  turn_hole h = cc

  first_case : (w : Exchange) (response : Response) (c : HeadCase) → CaseBy (head_view t (has_loss e.acts) w response) c → route_of w.need ≡ route.Hole →
      was_shown (t.consumer w.c) ≡ false → FirstCase c
  first_case w response _ (cases.direct_bad way h) hole off = absurd (direct_hole (sym way ∙ hole))
  first_case w response _ (cases.direct_taken way) hole off = absurd (direct_hole (sym way ∙ hole))
  first_case w response _ (cases.turn_bad way h) hole off = absurd (turn_hole (sym way ∙ hole))
  first_case w response _ (cases.validated way h d l) hole off = absurd (turn_hole (sym way ∙ hole))
  first_case w response _ (cases.not_validated way h) hole off = absurd (turn_hole (sym way ∙ hole))
  first_case w response _ (cases.turn_server_error way) hole off = absurd (turn_hole (sym way ∙ hole))
  first_case w response _ (cases.founds_whole way h l g) hole off = absurd (turn_hole (sym way ∙ hole))
  first_case w response _ (cases.founds_range way h f l g) hole off = absurd (turn_hole (sym way ∙ hole))
  first_case w response _ (cases.passes_by way) hole off = absurd (turn_hole (sym way ∙ hole))
  first_case w response _ (cases.first_bad way shown h) hole off = bad
  first_case w response _ (cases.first_joins way shown h g) hole off = joins
  first_case w response _ (cases.first_server_error way shown) hole off = server_error
  first_case w response _ (cases.first_changed way shown) hole off = changed
  first_case w response _ (cases.first_replaced way shown h l g) hole off = replaced
  first_case w response _ (cases.first_passes_by way shown) hole off = passes_by
  first_case w response _ (cases.later_bad way shown h) hole off = absurd (false_true (sym off ∙ shown))
  first_case w response _ (cases.later_joins way shown h g) hole off = absurd (false_true (sym off ∙ shown))
  first_case w response _ (cases.later_changed way shown) hole off = absurd (false_true (sym off ∙ shown))

  -- NOTHING IS SAID BUT BY A POLL

  opens_none : ((c want : ℕ) → ev ≡ event.Poll c want → ⊥) → (z : Option Opening) → opening_in e.acts ≡ z → z ≡ None
  opens_none unpolled None is = refl
  opens_none unpolled (Some p) is = let opened = is_opened step p is in absurd (unpolled p.c opened.want opened.at)

  shows_none : ((c want : ℕ) → ev ≡ event.Poll c want → ⊥) → (z : Option Showing) → showing_in e.acts ≡ z → z ≡ None
  shows_none unpolled None is = refl
  shows_none unpolled (Some p) is = let shows = showing_by limits t now flaw s ev goes p is in absurd (unpolled p.c shows.want shows.poll.at)

  waits_none : ((c want : ℕ) → ev ≡ event.Poll c want → ⊥) → (c : ℕ) (z : Option Wait) → wait_in c e.acts ≡ z → z ≡ None
  waits_none unpolled c None is = refl
  waits_none unpolled c (Some p) is = let waits = waiting_by limits t now flaw s ev goes c p is in absurd (unpolled c waits.want waits.poll.at)

  -- so a consumer stands where the event left it
  pub heard_place : (c r lo : ℕ) (hi : Option ℕ) (how : BoundBy) (k u : Consumer) → ((d want : ℕ) → ev ≡ event.Poll d want → ⊥) →
      IsRow t e c r lo hi how k u → u.place ≡ (consumer_heard t e c ev k).place
  heard_place c r lo hi how k u unpolled row =
      sym (ap (λ (z : Consumer). z.place) row.is)
      ∙ plain_place t c (consumer_heard t e c ev k) (leaves_in c e.acts) (showing_in e.acts) (opening_in e.acts) (wait_in c e.acts) row.leaves
      (shows_none unpolled (showing_in e.acts) refl) (opens_none unpolled (opening_in e.acts) refl) (waits_none unpolled c (wait_in c e.acts) refl)

  module _ (c r lo y : ℕ) (hi : Option ℕ) (k u : Consumer) (row : IsRow t e c r lo hi (by.FirstHole y) k u)
      (stands : u.place ≡ place.Bound r lo hi (by.FirstHole y)) (at : k.place ≡ place.Bound r lo hi (by.FirstHole y)) (unshown : k.shown ≡ false)
      (after_row : now_on.consumer c ≡ Some u) (w : Exchange) (is : IsWaiter t c y k w) where
    -- its exchange is for a hole of r
    hole_of : IsAwaiting y w k.place → (route_of w.need ≡ route.Hole) × (w.aim ≡ Some r)
    hole_of it0 = grind (arith, nat_tests)

    -- ITS HEAD

    sent_back : {response : Response} → ev ≡ event.Head y response → case_at t e ≡ Some case.FirstChanged → ⊥
    unfolding starts_over
    sent_back {response} here is_case =
        let sends : sends_back (case_at t e) ≡ true = ap sends_back is_case in
        let number : nat_eq w.c c ≡ true = (let same : w.c ≡ c = is.for_it in grind (arith, nat_tests)) in
        let it : is_for (exchange_at t ev) c ≡ true = ap (λ v. is_for (exchange_at t v) c) here ∙ (ap (λ z. is_for z c) is.exchange_row ∙ number) in
        let none : (sends_back (case_at t e) && is_for (exchange_at t ev) c) ≡ false = ((or_false _ _ ((or_false _ _ row.stays).0)).1) in
        false_true (sym none ∙ and_both sends it)
      where
        and_both : {p q : Bool} → p ≡ true → q ≡ true → (p && q) ≡ true
        and_both {p} {q} a b = rw (a, b) refl

    by_case : (response : Response) (g : HeadCase) → ev ≡ event.Head y response → case_at t e ≡ Some g → FirstCase g →
        u.place ≡ place_by_case y response w k (Some g) → IsToBeShown now_on u (by.FirstHole y)
    by_case response _ here is_case bad placed =
        absurd (let no : place.Down (cause.BadHead y) ≡ place.Bound r lo hi (by.FirstHole y) = sym placed ∙ stands in cc)
    by_case response _ here is_case joins placed =
        let on = is_on t e y w is.exchange_row in
        sound.joined y (ap has_joined on.row ∙ by_joined on.u on.same.heard_or (λ h. on.same.unheard h response here))
      where
        by_joined : (z : Exchange) → ((z.head ≡ w.head) × (z.joined ≡ w.joined)) ⊎ exchange.IsHeaded t e y w z → (z.head ≡ None → ⊥) → is_some z.joined ≡ true
        by_joined z (inl still) headed = absurd (headed (still.0 ∙ is.bare))
        by_joined z (inr got) headed =
            ap (λ (q : Option ℕ). is_some q) (got.joined_is ∙ (ap (λ g. if is_joining g then w.aim else w.joined) is_case ∙ (hole_of is.at).1))
    by_case response _ here is_case server_error placed = absurd (let no : place.Direct y ≡ place.Bound r lo hi (by.FirstHole y) = sym placed ∙ stands in cc)
    by_case response _ here is_case changed placed = absurd (sent_back here is_case)
    by_case response _ here is_case replaced placed =
        absurd (let no : place.Bound y 0 _ by.Founding ≡ place.Bound r lo hi (by.FirstHole y) = sym placed ∙ stands in cc)
    by_case response _ here is_case passes_by placed = absurd (let no : place.Direct y ≡ place.Bound r lo hi (by.FirstHole y) = sym placed ∙ stands in cc)

    head_place : (response : Response) (z : Option Exchange) → z ≡ Some w → (by_head t e c y response z k).place ≡ place_by_case y response w k (case_at t e)
    head_place response z is_none = grind (arith, nat_tests)

    by_head_of : (response : Response) → ev ≡ event.Head y response → IsToBeShown now_on u (by.FirstHole y)
    by_head_of response here =
        let g = head_case (head_view t (has_loss e.acts) w response) in
        let is_case : case_at t e ≡ Some g = case_is t e y response w here is.exchange_row in
        let unshown_row : was_shown (t.consumer w.c) ≡ false = ap was_shown (ap t.consumer is.for_it ∙ is.row) ∙ unshown in
        let which : FirstCase g = first_case w response g (case_by (head_view t (has_loss e.acts) w response)) (hole_of is.at).0 unshown_row in
        let heard : u.place ≡ (consumer_heard t e c ev k).place =
        heard_place c r lo hi (by.FirstHole y) k u (λ d want polls. let no : event.Head y response ≡ event.Poll d want = sym here ∙ polls in cc) row in
        let placed : u.place ≡ place_by_case y response w k (Some g) = heard ∙
        (ap (λ v. (consumer_heard t e c v k).place) here ∙ (head_place response (t.exchange y) is.exchange_row ∙ ap (place_by_case y response w k) is_case)) in
        by_case response g here is_case which placed

    -- ANOTHER EVENT

    cancelled : ev ≡ event.Cancel c → ⊥
    cancelled here =
        let heard : u.place ≡ (consumer_heard t e c ev k).place =
        heard_place c r lo hi (by.FirstHole y) k u (λ d want polls. let no : event.Cancel c ≡ event.Poll d want = sym here ∙ polls in cc) row in
        let over : (consumer_heard t e c (event.Cancel c) k).place ≡ place.Over = (let test : nat_eq c c ≡ true = grind (arith, nat_tests) in rw test refl) in
        let no : place.Over ≡ place.Bound r lo hi (by.FirstHole y) = sym over ∙
        (sym (ap (λ v. (consumer_heard t e c v k).place) here) ∙ (sym heard ∙ stands)) in cc

    own_of : (exchange_in ev ≡ Some y → ⊥) → u.own ≡ Some y
    own_of other =
        let same : consumer_heard t e c ev k ≡ k = heard_same step c y k w is ev refl other cancelled in
        sym (ap (λ (z : Consumer). z.own) row.is) ∙
        (ap (λ (h : Consumer). own_after t e c h.place (by_opening t c (opening_in e.acts) (waiting t e c h)).own) same ∙ own_acted step c y k w is)

    others : (exchange_in ev ≡ Some y → ⊥) → IsToBeShown now_on u (by.FirstHole y)
    others other =
        let shut = unclosed step c y k w is other cancelled row.leaves row.stays in
        let un = is_untouched t e y w is.exchange_row other shut in
        let on : is_open (now_on.exchange y) ≡ true = ap is_open un.row ∙ (un.open_is ∙ is.was_open) in
        let own : own_open now_on u ≡ Some y = ap (option_and_then (if_open now_on)) (own_of other) ∙ ap (λ (v : Bool). if v then Some y else None) on in
        let bare : is_headless (now_on.exchange y) ≡ true = ap is_headless un.row ∙
        both un.u.is_open un.u.head (un.open_is ∙ is.was_open) (un.head_is ∙ is.bare) in
        sound.waits y own bare
      where
        both : (a : Bool) (z : Option Response) → a ≡ true → z ≡ None → (a && is_none z) ≡ true
        both a z open_now none = rw (open_now, none) refl

    not_headed : is_some w.head ≡ true → ⊥
    not_headed h = false_true (sym (ap (λ (z : Option Response). is_some z) is.bare) ∙ h)

    piece_refused : (bytes : List ℕ) → denial t (event.Piece y bytes) ≡ None → ⊥
    unfolding refusals.refusal_of
    piece_refused bytes h = not_headed (taken (length bytes) w (sym (ap (λ z. piece_refusal (as_open z) (length bytes)) is.exchange_row) ∙ h)).headed

    end_refused : denial t (event.End y) ≡ None → ⊥
    unfolding refusals.refusal_of
    end_refused h = grind (arith, nat_tests)

    fault_place : ev ≡ event.Fault y → ⊥
    fault_place here =
        let heard : u.place ≡ (consumer_heard t e c ev k).place =
        heard_place c r lo hi (by.FirstHole y) k u (λ d want polls. let no : event.Fault y ≡ event.Poll d want = sym here ∙ polls in cc) row in
        let down : (by_fault c y (t.exchange y) k).place ≡ place.Down (cause.Net y) = ap (λ z. (by_fault c y z k).place) is.exchange_row ∙
        (let number : nat_eq w.c c ≡ true = (let same : w.c ≡ c = is.for_it in grind (arith, nat_tests)) in put w.head k.shown number is.bare unshown) in
        let no : place.Down (cause.Net y) ≡ place.Bound r lo hi (by.FirstHole y) = sym down ∙
        (sym (ap (λ v. (consumer_heard t e c v k).place) here) ∙ (sym heard ∙ stands)) in cc
      where
        put : (z : Option Response) (shown : Bool) → (w.c == c) ≡ true → z ≡ None → shown ≡ false →
            (if (w.c == c) && is_none z && not shown then record k { place = place.Down (cause.Net y) } else k).place ≡ place.Down (cause.Net y)
        put z shown number none off = rw (number, none, off) refl

    by_event : (v : Event) → ev ≡ v → IsToBeShown now_on u (by.FirstHole y)
    by_event (event.Head x response) here = elim (eq_cases x y) [
      | inl same ↦ by_head_of response (here ∙ ap (λ n. event.Head n response) same.1)
      | inr apart ↦ others (λ h. apart.1 (some_inj x y (sym (ap exchange_in here) ∙ h)))
    ]
    by_event (event.Piece x bytes) here = elim (eq_cases x y) [
      | inl same ↦ absurd (piece_refused bytes (sym (ap (denial t) (here ∙ ap (λ n. event.Piece n bytes) same.1)) ∙ goes))
      | inr apart ↦ others (λ h. apart.1 (some_inj x y (sym (ap exchange_in here) ∙ h)))
    ]
    by_event (event.End x) here = elim (eq_cases x y) [
      | inl same ↦ absurd (end_refused (sym (ap (denial t) (here ∙ ap event.End same.1)) ∙ goes))
      | inr apart ↦ others (λ h. apart.1 (some_inj x y (sym (ap exchange_in here) ∙ h)))
    ]
    by_event (event.Fault x) here = elim (eq_cases x y) [
      | inl same ↦ absurd (fault_place (here ∙ ap event.Fault same.1))
      | inr apart ↦ others (λ h. apart.1 (some_inj x y (sym (ap exchange_in here) ∙ h)))
    ]
    by_event _ here = others (λ h. none_some y (sym (ap exchange_in here) ∙ h))

    pub still_waits : IsToBeShown now_on u (by.FirstHole y)
    still_waits = by_event ev refl

  -- EACH WAY TO BE BOUND

  headless_parts : (z : Option Exchange) → is_headless z ≡ true → (w : Exchange) × (z ≡ Some w) × (w.is_open ≡ true) × (w.head ≡ None)
  headless_parts z h = grind (arith, nat_tests)

  joined_parts : (z : Option Exchange) → has_joined z ≡ true → (w : Exchange) × (z ≡ Some w) × (is_some w.joined ≡ true)
  joined_parts None h = absurd (false_true h)
  joined_parts (Some w) h = (w, refl, h)

  -- what joined has joined for good
  still_joined : (y : ℕ) → has_joined (t.exchange y) ≡ true → has_joined (now_on.exchange y) ≡ true
  still_joined y h =
      let all = joined_parts (t.exchange y) h in
      let on = is_on t e y all.0 all.1 in
      ap has_joined on.row ∙ by_heard all.0 on.u all.1 all.2 on.same.heard_or
    where
      by_heard : (w z : Exchange) → t.exchange y ≡ Some w → is_some w.joined ≡ true →
          ((z.head ≡ w.head) × (z.joined ≡ w.joined)) ⊎ exchange.IsHeaded t e y w z → is_some z.joined ≡ true
      by_heard w z row some (inl still) = ap (λ (q : Option ℕ). is_some q) still.1 ∙ some
      by_heard w z row some (inr got) =
          let new = is_new limits t now flaw s ev goes y got.response w got.at row in
          let none : w.joined ≡ None = (s.waits.headless y w row new.bare).1 in
          absurd (false_true (sym (ap (λ (q : Option ℕ). is_some q) none) ∙ some))

  waits_still : (c r lo y : ℕ) (hi : Option ℕ) (k u : Consumer) → IsRow t e c r lo hi (by.FirstHole y) k u →
      u.place ≡ place.Bound r lo hi (by.FirstHole y) → k.place ≡ place.Bound r lo hi (by.FirstHole y) → k.shown ≡ false → now_on.consumer c ≡ Some u →
      is_headless (t.exchange y) ≡ true → IsToBeShown now_on u (by.FirstHole y)
  waits_still c r lo y hi k u row stands at unshown after_row headless =
      let all = headless_parts (t.exchange y) headless in
      let f = o.first_own c r lo y hi k row.row at in
      let for_it : all.0.c ≡ c = ap (λ (z : Exchange). z.c) (same_row (t.exchange y) all.0 f.w all.1 f.row) ∙ f.for_it in
      let got = waiter_of step y all.0 all.1 all.2 all.3 in
      let one : got.0 ≡ k = same_row (t.consumer c) got.0 k (sym (ap t.consumer for_it) ∙ got.1.row) row.row in
      still_waits c r lo y hi k u row stands at unshown after_row all.0
      (subst (λ (z : Consumer). IsWaiter t c y z all.0) one (subst (λ d. IsWaiter t d y got.0 all.0) for_it got.1))

  stays_shown : (c r lo : ℕ) (hi : Option ℕ) (how : BoundBy) (k u : Consumer) → IsRow t e c r lo hi how k u → u.place ≡ place.Bound r lo hi how →
      k.place ≡ place.Bound r lo hi how → k.shown ≡ false → now_on.consumer c ≡ Some u → IsToBeShown t k how → IsToBeShown now_on u how
  stays_shown c r lo hi _ k u row stands at unshown after_row sound.founded = sound.founded
  stays_shown c r lo hi _ k u row stands at unshown after_row (sound.joined y joined) = sound.joined y (still_joined y joined)
  stays_shown c r lo hi _ k u row stands at unshown after_row (sound.waits y own headless) =
      waits_still c r lo y hi k u row stands at unshown after_row headless

  -- what the acts and the event say of whether it was shown a head
  shown_parts : (c r lo : ℕ) (hi : Option ℕ) (how : BoundBy) (k u : Consumer) → IsRow t e c r lo hi how k u → u.shown ≡ false →
      (shows_in c e.acts ≡ false) × (k.shown ≡ false)
  shown_parts c r lo hi how k u row off =
      or_false (shows_in c e.acts) k.shown (sym (acted t e c k).shown_is ∙ (ap (λ (z : Consumer). z.shown) row.is ∙ off))

  opened_waits : (c r lo y : ℕ) (hi : Option ℕ) (k u : Consumer) (p : Opening) → IsRow t e c r lo hi (by.FirstHole y) k u → opening_in e.acts ≡ Some p →
      p.c ≡ c → p.x ≡ y → bound_to (waiting t e c (consumer_heard t e c ev k)).place ≡ None → IsToBeShown now_on u (by.FirstHole y)
  opened_waits c r lo y hi k u p row opens here same free =
      let opener = is_opener limits t now flaw s ev goes c k p row.row opens here in
      let made : now_on.exchange y ≡ Some (exchange_opened t e p) = opened_on t e y p (t.exchange y) (new_number step p y opens same) opens same in
      let number : nat_eq p.c c ≡ true = (let eq : p.c ≡ c = here in grind (arith, nat_tests)) in
      let mine : (q : Consumer) → (by_opening t c (opening_in e.acts) q).own ≡ Some y = λ q. ap (λ z. (by_opening t c z q).own) opens ∙
      (rw number (ap Some same)) in
      let free_place : bound_to k.place ≡ None = sym (ap bound_to opener.place_is) ∙ free in
      let own : u.own ≡ Some y = sym (ap (λ (z : Consumer). z.own) row.is) ∙
      (ap (λ (h : Consumer). own_after t e c h.place (by_opening t c (opening_in e.acts) (waiting t e c h)).own) opener.heard_is ∙
      (unbound_own k.place _ free_place ∙ mine (waiting t e c k))) in
      let open_now : own_open now_on u ≡ Some y = ap (option_and_then (if_open now_on)) own ∙ ap (λ (v : Bool). if v then Some y else None) (ap is_open made) in
      sound.waits y open_now (ap is_headless made)
    where
      unbound_own : (q : Place) (z : Option ℕ) → bound_to q ≡ None → own_after t e c q z ≡ z
      unbound_own q z none = grind (arith, nat_tests)

  shown_from : (c r lo : ℕ) (hi : Option ℕ) (how : BoundBy) (u : Consumer) → now_on.consumer c ≡ Some u → u.place ≡ place.Bound r lo hi how →
      u.shown ≡ false → BoundFrom t e c r lo hi how u → IsToBeShown now_on u how
  shown_from c r lo hi how u after_row stands off (bound.stays k row at) =
      let unshown = (shown_parts c r lo hi how k u row off).1 in
      stays_shown c r lo hi how k u row stands at unshown after_row (s.unshown c r lo hi how k row.row at unshown)
  shown_from c r lo hi how u after_row stands off (bound.founds k x response w row at there here of_r by_is all) = rw by_is sound.founded
  shown_from c r lo hi how u after_row stands off (bound.opens k p row is here free way hole) =
      first_by how hole.by_is row stands
    where
      first_by : (g : BoundBy) → g ≡ by.FirstHole p.x → IsRow t e c r lo hi g k u → u.place ≡ place.Bound r lo hi g → IsToBeShown now_on u g
      first_by g same row stands =
          subst (IsToBeShown now_on u) (sym same) (opened_waits c r lo p.x hi k u p (subst (λ z. IsRow t e c r lo hi z k u) same row) is here refl free)
  shown_from c r lo hi how u after_row stands off (bound.shows k z row is all) =
      absurd (let shows : shows_in c e.acts ≡ true = ap (λ d. shows_in d e.acts) (sym all.at) ∙ shows_it e.acts z is in
      false_true (sym ((shown_parts c r lo hi how k u row off).0) ∙ shows))

  pub unshown_kept : (c r lo : ℕ) (hi : Option ℕ) (how : BoundBy) (u : Consumer) → now_on.consumer c ≡ Some u → u.place ≡ place.Bound r lo hi how →
      u.shown ≡ false → IsToBeShown now_on u how
  unshown_kept c r lo hi how u row at off = shown_from c r lo hi how u row at off (bound_from t e c r lo hi how (t.consumer c) u refl row at)
