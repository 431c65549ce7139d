-- What a start, a poll and a cancel leave as it was, and what they close: they bring and doom nothing.
--
-- `BringsNothing` lists what such an event leaves to its acts, and all else is read off it. Nothing becomes due
-- (`undue`), a row changes by the acts alone (`row_acted`), and nothing goes by the event (`goes_nothing`). It closes
-- an exchange only by a leave. Who leaves reads from one exchange, which is open (`left_test`, `left_open`); that
-- stands once in the list of openings, so it alone passes (`one_of`).
use Rattle.std.{proofs.{lemmas.Bool.Decides.{nat_tests}, Common.{◌≡◌, ◌≢◌, inl, inr, ℕ, ◌+◌, ◌<◌, List, [], ◌∷◌, Bool, true, false, Option, Some, None, refl, ap, ap₂, sym, ◌∙◌, subst, arith}}, specs.{Prelude.{◌&&◌, ◌||◌, not, nat_eq, if◌then◌else◌, filter, reverse, is_some}, Option.{option_or}}}
use mathlib.Core.Path.{fun_ext}
use Rattle.hc_text.proofs.Basics.{and_true, not_some as none_some, or_none as or_nothing, or_false as or_off, some_inj, and_off as then_false}
use Rattle.hc_effects.proofs.Vocabulary.{opening_in, asks_in, closes_in, evicts_in, Act, Cause, Event, Request, is_same_number, Place, loses_in, misreads_in, fails_in, showing_in, case_at, case_of, is_founding, closing, closes_row, is_left, is_left_by, leaver, is_last_reader, consumer_after, consumer_heard, consumer_made, consumer_acted, consumer_settled, back_in_line, is_current, is_number, doomed_key_of, bypass_key, is_key, left_by, Entry, exchange_after, exchange_heard, exchange_acted, exchange_in, exchange_at, is_open, becomes_due, cause_of_head, becomes_gone, ends_early, stops_early, is_keepable, Descends, AreOnce, InOrder, Owners, reads, own_open, shared_exchange, group_in, is_written, source, representation_heard, founded_at, Tables, Exchange, Representation, Consumer, Sound, Among, IsBound, starts_over, loses_what_it_waits_for, with_item_first, founds, binds, binds_by_opening, binds_by_showing, to_front, brings_body, place}
use Rattle.hc_event.specs.declared.event.Event.TheVariants as event
use Rattle.hc_model.specs.Sound.{is_bound}
use Rattle.hc_effects.proofs.{AboutKeeps.{own_open_of}, ActParts.{IsFarFrom}, ApartKeeps.{is_on}, Basics.{number_is}, Closed.{reversed}, Dues.{undue_of, other_stop}, FewClosings.{ClosesLittle, filter_none, must_as, quiet_closes}, KeyActs.{test_some}, PieceKeeps.{eq_cases}, Stops.{writer_about}, Sums.{reverse_once}, Untouched.{exchange_stays, exchange_absent, binds_nobody, loss_spared, spared_bodiless, consumer_frame, starts_as, goes_from}}

pub data IsOf (c : ℕ) : Event → Type 0 where
  starts : (request : Request) → IsOf c (event.Start c request)
  polls : (want : ℕ) → IsOf c (event.Poll c want)
  cancels : IsOf c (event.Cancel c)

-- what an event of c leaves to the acts
pub record BringsNothing (t : Tables) (e : Entry) (c : ℕ) : Type 0 where
  pub names : exchange_in e.event ≡ None
  pub bodiless : brings_body e.event ≡ false
  pub caseless : case_at t e ≡ None
  pub doomless : doomed_key_of t e ≡ None
  pub nowhere : exchange_at t e.event ≡ None
  pub exchange : (x : ℕ) (w : Exchange) → exchange_heard t e x e.event w ≡ w
  pub representation : (r : ℕ) (v : Representation) → representation_heard t e r e.event v ≡ v
  pub founds_none : (r : ℕ) → founded_at t e r e.event ≡ None
  pub goes_on : (r : ℕ) (w : Exchange) → stops_early w r e.event ≡ false
  pub headless : (d : ℕ) → cause_of_head t e d e.event ≡ None
  pub heard : (d : ℕ) (k : Consumer) → nat_eq c d ≡ false → consumer_heard t e d e.event k ≡ k
  pub made : (d : ℕ) → nat_eq c d ≡ false → consumer_made d e.now e.event ≡ None

pub brings_nothing : (t : Tables) (now c : ℕ) (ev : Event) (acts : List Act) → IsOf c ev → BringsNothing t (record { now = now; event = ev; acts = acts }) c
unfolding case_of doomed_key_of
brings_nothing t now c _ acts (starts request) =
    record {
      names = refl;
      bodiless = refl;
      caseless = refl;
      doomless = refl;
      nowhere = refl;
      exchange = λ x w. refl;
      representation = λ r v. refl;
      founds_none = λ r. refl;
      goes_on = λ r w. refl;
      headless = λ d. refl;
      heard = λ d k other. refl;
      made = λ d other. rw other refl;
    }
brings_nothing t now c _ acts (polls want) =
    record {
      names = refl;
      bodiless = refl;
      caseless = refl;
      doomless = refl;
      nowhere = refl;
      exchange = λ x w. refl;
      representation = λ r v. refl;
      founds_none = λ r. refl;
      goes_on = λ r w. refl;
      headless = λ d. refl;
      heard = λ d k other. refl;
      made = λ d other. refl;
    }
brings_nothing t now c _ acts cancels =
    record {
      names = refl;
      bodiless = refl;
      caseless = refl;
      doomless = refl;
      nowhere = refl;
      exchange = λ x w. refl;
      representation = λ r v. refl;
      founds_none = λ r. refl;
      goes_on = λ r w. refl;
      headless = λ d. refl;
      heard = λ d k other. rw other refl;
      made = λ d other. refl;
    }

no_number : (o : Option ℕ) → is_same_number o None ≡ false
no_number o = grind (arith, nat_tests)

-- LISTS

filter_apart : (y : ℕ) (xs : List ℕ) → (Among y xs → ⊥) → filter (is_number (Some y)) xs ≡ []
filter_apart y [] apart = refl
filter_apart y (x ∷ xs) apart = elim (eq_cases y x) [
  | inl here ↦ absurd (apart (inl (sym here.1)))
  | inr other ↦ rw other.0 (filter_apart y xs (λ there. apart (inr there)))
]

one_here : (y x : ℕ) (xs : List ℕ) → AreOnce (x ∷ xs) → y ≡ x → filter (is_number (Some y)) xs ≡ []
one_here y x xs once same = filter_apart y xs (λ there. once.0 (subst (λ z. Among z xs) same there))

-- where it stands once, it alone passes
pub one_of : (o : Option ℕ) (xs : List ℕ) → AreOnce xs → ((x : ℕ) → o ≡ Some x → Among x xs) → filter (is_number o) xs ≡ with_item_first o []
one_of None xs once there = filter_none xs
one_of (Some y) [] once there = absurd (there y refl)
one_of (Some y) (x ∷ xs) once there = elim (eq_cases y x) [
  | inl here ↦ rw here.0 (ap (λ (zs : List ℕ). x ∷ zs) (one_here y x xs once here.1) ∙ ap (λ z. z ∷ []) (sym here.1))
  | inr other ↦ rw other.0 (one_of (Some y) xs once.1 (λ z is. rest z is (there z is) other.1))
]
  where
    rest : (z : ℕ) → Some y ≡ Some z → Among z (x ∷ xs) → y ≢ x → Among z xs
    rest z is (inl here) apart = absurd (apart (some_inj y z is ∙ sym here))
    rest z is (inr more) apart = more

pub all_below : (n m : ℕ) (xs : List ℕ) → Descends n xs → Among m xs → m < n
all_below n m (x ∷ xs) falls (inl here) = let lt : x < n = falls.0 in omega (arith, here, lt)
all_below n m (x ∷ xs) falls (inr there) = let lt : x < n = falls.0 in let more = all_below x m xs falls.1 there in omega (arith, lt, more)
all_below n m [] falls there = absurd there

-- what falls stands once
pub descends_once : (n : ℕ) (xs : List ℕ) → Descends n xs → AreOnce xs
descends_once n [] falls = tt
descends_once n (x ∷ xs) falls = (λ there. (let never = all_below x x xs falls.1 there in absurd (omega (arith, never))), descends_once x xs falls.1)

pub and_so : (a b : Bool) → (a ≡ true → b ≡ true) → (a && b) ≡ a
and_so true b so = so refl
and_so false b so = refl

pub open_there : (o : Option Exchange) → is_open o ≡ true → is_some o ≡ true
open_there o on = grind (arith, nat_tests)

-- WHAT SOMEBODY LEAVES

module _ (t : Tables) (s : Sound t) (o : Owners t) (c : ℕ) (k : Consumer) (row : t.consumer c ≡ Some k) where
  own_opened : (x : ℕ) → own_open t k ≡ Some x → is_open (t.exchange x) ≡ true
  own_opened x is = let own = own_open_of t k x is in ap is_open own.row ∙ own.opened

  group_some : (r x : ℕ) (z : Option Representation) → t.representation r ≡ z → group_in t z ≡ Some x → (v : Representation) ×
      (t.representation r ≡ Some v) × (is_written t v ≡ true) × (v.writer ≡ Some x)
  group_some r x None row is = absurd (none_some x is)
  group_some r x (Some v) row is = let both = test_some (is_written t v) v.writer x is in (v, row, both.0, both.1)

  -- the exchange of a writing that is read is open, and isn't the own one of who reads it
  shared_by : (x : ℕ) (p : Place) → k.place ≡ p → shared_exchange t p ≡ Some x → (is_open (t.exchange x) ≡ true) × ((y : ℕ) → own_open t k ≡ Some y → ⊥)
  shared_by x (place.Bound r lo hi how) at is =
      let all = group_some r x (t.representation r) refl is in
      let reader : IsBound t r c k = is_bound lo hi how row at in (
        (is_on t all.0 x all.2 all.3).open_now,
        λ y own.
            let one : x ≡ y = s.one_about r x y (writer_about t r x all.0 s all.1 all.2 all.3) (s.writes.own_about r c y k reader own) in
            o.apart r x c all.0 k all.1 all.2 all.3 row (subst (λ z. k.own ≡ Some z) (sym one) (own_open_of t k y own).own),
      )
  shared_by x _ at is = absurd (none_some x is)

  -- what it leaves is open
  pub left_open : (x : ℕ) → left_by t c k ≡ Some x → is_open (t.exchange x) ≡ true
  left_open x is = by_own (own_open t k) refl is
    where
      by_own : (z : Option ℕ) → own_open t k ≡ z → option_or z (if is_last_reader t c k.place then shared_exchange t k.place else None) ≡ Some x →
          is_open (t.exchange x) ≡ true
      by_own (Some y) own h = own_opened x (own ∙ h)
      by_own None own h = (shared_by x k.place refl (test_some (is_last_reader t c k.place) (shared_exchange t k.place) x h).1).0

  -- just one exchange is
  pub left_test : (x : ℕ) → is_left_by t x c (Some k) ≡ is_number (left_by t c k) x
  left_test x = by_own (own_open t k) refl
    where
      by_last : (last : Bool) (z : Option ℕ) → (is_number z x && last) ≡ is_number (if last then z else None) x
      by_last true z = and_true (is_number z x)
      by_last false z = then_false (is_number z x) false refl

      alone : (y : ℕ) → own_open t k ≡ Some y → (z : Option ℕ) (last : Bool) → shared_exchange t k.place ≡ z →
          (nat_eq y x || (is_number z x && last)) ≡ nat_eq y x
      alone y own None last is = or_off (nat_eq y x)
      alone y own (Some z) last is = absurd ((shared_by z k.place refl is).1 y own)

      by_own : (z : Option ℕ) → own_open t k ≡ z →
          (is_number z x || (is_number (shared_exchange t k.place) x && is_last_reader t c k.place)) ≡ is_number
          (option_or z (if is_last_reader t c k.place then shared_exchange t k.place else None)) x
      by_own None own = by_last (is_last_reader t c k.place) (shared_exchange t k.place)
      by_own (Some y) own = alone y own (shared_exchange t k.place) (is_last_reader t c k.place) refl

module _ (t : Tables) (e : Entry) (a : ℕ) (n : BringsNothing t e a) where
  -- NOTHING BECOMES DUE

  pub undue : (c : ℕ) (k : Consumer) → becomes_due t e c k ≡ None
  undue c k = undue_of t e c k (record {
    stop = other_stop t e k (ap (is_same_number (source t k)) n.names ∙ no_number (source t k));
    loss = loss_spared t e c k.place (spared_bodiless t e k.place n.bodiless);
    head = n.headless c;
  })

  -- WHAT STAYS

  pub row_acted : (x : ℕ) (w : Exchange) → exchange_after t e x (Some w) ≡ Some (exchange_acted x e.acts w)
  unfolding exchange_after
  row_acted x w = ap (λ (u : Exchange). Some (exchange_acted x e.acts u)) (n.exchange x w)

  pub row_unsaid : (x : ℕ) (w : Exchange) → asks_in x e.acts ≡ false → closes_in x e.acts ≡ false → exchange_after t e x (Some w) ≡ Some w
  row_unsaid x w asks closes = exchange_stays t e x w (n.exchange x w) asks closes

  -- where what it waits for becomes gone, unless it fails
  pub starts_as_loses : (c : ℕ) (k : Consumer) → starts_over t e c k ≡ loses_what_it_waits_for t e c k.place
  unfolding starts_over
  starts_as_loses c k = rw (n.doomless, n.caseless) refl

  pub starts_from : (c : ℕ) (k : Consumer) → fails_in c e.acts ≡ false → starts_over t e c k ≡ goes_from t e k.place
  starts_from c k fails = starts_as t e c k fails (rw n.caseless refl) ∙ rw n.doomless refl

  -- who is left alone stays, or starts over where what it waits for becomes gone
  pub consumer_alone : (c : ℕ) (k : Consumer) → IsFarFrom c e.acts → consumer_heard t e c e.event k ≡ k → (reads k.place ≡ false → k.due ≡ None)
      → consumer_after t e c (Some k) ≡ Some (if goes_from t e k.place then back_in_line e.now k else k)
  consumer_alone c k said heard idle =
      consumer_frame t e c k said (spared_bodiless t e k.place n.bodiless) heard (undue c k) idle
      ∙ ap (λ (b : Bool). Some (if b then back_in_line e.now k else k)) (starts_from c k said.fails)

  -- c itself, where it doesn't start over
  pub consumer_itself : (c : ℕ) (k h q : Consumer) → consumer_heard t e c e.event k ≡ h → consumer_acted t e c h ≡ q →
      loses_what_it_waits_for t e c k.place ≡ false
      → consumer_after t e c (Some k) ≡ Some (record q { due = if reads q.place then k.due else None })
  unfolding consumer_after
  consumer_itself c k h q heard acted stays =
      ap (λ (z : Consumer). Some (consumer_settled t e c k z)) (ap (consumer_acted t e c) heard ∙ acted)
      ∙ ap Some (rw (starts_as_loses c k, stays)
      (ap (λ (z : Option Cause). record q { due = if reads q.place then z else None }) (ap (option_or k.due) (undue c k) ∙ or_nothing k.due)))

  pub founds_nobody : founds t e ≡ None
  founds_nobody = rw n.caseless refl

  -- WHAT GOES

  -- by a bypass, a loss, a failed read, an early end or an eviction
  pub goes_as : (r : ℕ) (v : Representation) →
      becomes_gone t e r v ≡ ((is_current t v.key r && is_key (bypass_key e) v.key) || loses_in r e.acts || misreads_in
      r e.acts || (ends_early t e r v && not (is_keepable v)) || evicts_in r e.acts)
  unfolding becomes_gone
  goes_as r v = grind (arith, nat_tests)

  -- an exchange that isn't closed doesn't end early
  pub ends_none : (r : ℕ) (v : Representation) → closes_in r e.acts ≡ false → ends_early t e r v ≡ false
  ends_none r v closes = grind (arith, nat_tests)

  pub goes_nothing : (r : ℕ) (v : Representation) → bypass_key e ≡ None → loses_in r e.acts ≡ false → misreads_in r e.acts ≡ false → closes_in
      r e.acts ≡ false → evicts_in r e.acts ≡ false → becomes_gone t e r v ≡ false
  goes_nothing r v bypass loses misreads closes evicts = goes_as r v ∙
      rw (bypass, loses, misreads, ends_none r v closes, evicts) (drop_and (is_current t v.key r))
    where
      drop_and : (b : Bool) → ((b && false) || false || false || false || false) ≡ false
      drop_and true = refl
      drop_and false = refl

  -- who becomes bound does so by an opening, or by its plan
  pub binds_as : binds t e ≡ option_or (binds_by_opening t (opening_in e.acts)) (binds_by_showing t (showing_in e.acts))
  binds_as = ap (λ (o : Option ℕ). option_or o (option_or (binds_by_opening t (opening_in e.acts)) (binds_by_showing t (showing_in e.acts)))) founds_nobody

  pub binds_none : opening_in e.acts ≡ None → showing_in e.acts ≡ None → to_front (binds t e) t.used ≡ t.used
  binds_none opens shows = ap (λ (o : Option ℕ). to_front o t.used) (binds_nobody t e (ap is_founding n.caseless) opens shows)

  pub exchanges_stay : ((x : ℕ) → asks_in x e.acts ≡ false) → ((x : ℕ) → closes_in x e.acts ≡ false) → opening_in e.acts ≡ None → (x : ℕ) →
      exchange_after t e x (t.exchange x) ≡ t.exchange x
  exchanges_stay asks closes opens x = by_row (t.exchange x)
    where
      by_row : (o : Option Exchange) → exchange_after t e x o ≡ o
      by_row None = exchange_absent t e x (λ z is. absurd (none_some z (sym opens ∙ is)))
      by_row (Some w) = row_unsaid x w (asks x) (closes x)

  -- WHAT IS CLOSED

  pub little : ClosesLittle t e
  little = quiet_closes t e n.caseless n.doomless n.bodiless

  closes_as : (x : ℕ) (o : Option Exchange) → closes_row t e x o ≡ (is_left t x (leaver e) && is_open o)
  closes_as x None = sym (then_false (is_left t x (leaver e)) false refl)
  closes_as x (Some w) = ap₂ (λ (a : Bool) (u : Exchange). a && u.is_open) (must_as t e little x w) (n.exchange x w)

  closing_as : closing t e ≡ filter (λ x. is_left t x (leaver e) && is_open (t.exchange x)) (reverse t.openings)
  unfolding closing
  closing_as = ap (λ (test : ℕ → Bool). filter test (reverse t.openings)) (fun_ext (λ x. closes_as x (t.exchange x)))

  module _ (s : Sound t) (o : Owners t) (order : InOrder t) (c : ℕ) (k : Consumer) (row : t.consumer c ≡ Some k) where
    -- what it leaves, where c does
    pub closes_left : leaver e ≡ Some c → closing t e ≡ with_item_first (left_by t c k) []
    closes_left leaves =
        closing_as
        ∙ (ap (λ (test : ℕ → Bool). filter test (reverse t.openings)) (fun_ext test_is)
        ∙ one_of (left_by t c k) (reverse t.openings) (reverse_once t.openings (descends_once (t.opened + 1) t.openings order.openings))
        (λ x is. reversed x t.openings (s.numbered.lists.opened x (open_there (t.exchange x) (left_open t s o c k row x is)))))
      where
        test_is : (x : ℕ) → (is_left t x (leaver e) && is_open (t.exchange x)) ≡ is_number (left_by t c k) x
        test_is x =
            ap (λ (z : Option ℕ). is_left t x z && is_open (t.exchange x)) leaves
            ∙ (ap (λ (z : Option Consumer). is_left_by t x c z && is_open (t.exchange x)) row
            ∙ (ap (λ (b : Bool). b && is_open (t.exchange x)) (left_test t s o c k row x)
            ∙ and_so (is_number (left_by t c k) x) (is_open (t.exchange x)) (λ h. left_open t s o c k row x (number_is (left_by t c k) x h))))
