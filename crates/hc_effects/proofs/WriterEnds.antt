-- Where a writer group ends while somebody reads it to whom nothing becomes due, all of it is stored.
--
-- Its reader doesn't leave (`leaver_not`), and what is written isn't lost, as that reader has nothing due
-- (`losing_not`). So the exchange needn't be closed: its last reader doesn't leave, no head of it comes, and no doom is
-- for it (`left_not`, `not_must`). So its event ended it, and not by a fault; where less came than was promised a
-- failure would be due (`enough`, `ends_with_all`). Hence `all_stored`.
use Rattle.std.{proofs.{Common.{◌≡◌, ◌⊎◌, inl, inr, ℕ, ◌≤◌, List, [], ◌∷◌, length, Bool, true, false, Option, Some, None, refl, ap, sym, ◌∙◌, arith}, lemmas.Bool.Decides.{nat_tests}}, specs.{Prelude.{if◌then◌else◌, is_some, is_none, ◌==◌, ◌&&◌, nat_eq, nat_lt}, List.{list_all}, Option.{option_and_then}}}
use Rattle.hc_text.proofs.Basics.{and_left, and_right, bool_cases, not_some as none_some, or_cases, same_some as same_row, some_inj}
use Rattle.hc_effects.proofs.Vocabulary.{leaves_in, closes_in, Event, Response, is_same_number, Place, BoundBy, loses_in, answer_acts, loss_acts, must_close, is_refused, brings_head, is_doomed, has_no_survivor, is_left, is_left_by, is_last_reader, leaver, leaver_by, case_at, consumer_heard, is_number, Entry, exchange_in, is_open, family, promised_bytes, becomes_due, stop_cause, short_cause, short_of, entry_of, Measures, is_written, bound, is_bound, own_open, if_open, shared_exchange, group_in, source, Tables, Exchange, Representation, Consumer, Among, IsBound, IsGrowing, after_accepted, brings_body, loses_group, event, cause, place}
use Rattle.hc_model.specs.Sound as sound
use Rattle.hc_effects.proofs.{ActParts.{said_is, said_closes}, ApartKeeps.{is_on}, Basics.{false_true, some_none, number_is}, BoundFrom.{IsRow}, Closed.{before, among_filter}, Dues.{undue_parts}, LossBy.{IsReal, loses_flaw}, RepFrom.{IsKept}, SaidActs.{leaver_leaves}, Stops.{source_is}, ToBeShown.{heard_place}, Unclosed.{had_to}, GroupStops.{IsAll, refused_not, ends_all}, Step.{Step}}

pub none_of : (q : Option Response) → is_none q ≡ true → is_some q ≡ true → ⊥
none_of None none some = false_true some
none_of (Some response) none some = false_true none

pub all_same : (l d : ℕ) (ds : List ℕ) → list_all (λ z. z == l) ds ≡ true → Among d ds → d ≡ l
all_same l d [] h there = absurd there
all_same l d (z ∷ ds) h (inl same) = let test : nat_eq z l ≡ true = and_left (z == l) _ h in let here : z ≡ l = grind (arith, nat_tests) in sym same ∙ here
all_same l d (z ∷ ds) h (inr more) = all_same l d ds (and_right (z == l) _ h) more

module _ (step : Step) (m : Measures step.tables) (real : IsReal step.limits step.tables step.now step.event step.flaw) where
  open step use {limits, tables as t, now, flaw, sound as s, owners as o, event as ev}

  abbrev e : Entry
  e = entry_of limits t now ev flaw

  abbrev b : Entry
  b = before limits t now flaw s ev

  abbrev now_on : Tables
  now_on = after_accepted t e

  -- closings see the same losses
  pub loses_same : (r : ℕ) → loses_in r b.acts ≡ loses_in r e.acts
  loses_same r = (said_closes 0 r t now ev flaw (answer_acts t now ev flaw) (loss_acts flaw) (said_is t now ev flaw)).loses ∙ sym (loses_flaw step m real r ev)

  module _ (r c x lo : ℕ) (hi : Option ℕ) (how : BoundBy) (k u : Consumer) (v p : Representation) (row : IsRow t e c r lo hi how k u)
      (at : k.place ≡ place.Bound r lo hi how) (stands : u.place ≡ place.Bound r lo hi how) (there : t.representation r ≡ Some v)
      (on : is_written t v ≡ true) (writer : v.writer ≡ Some x) (undue : becomes_due t e c k ≡ None) (kept : IsKept t e r v p)
      (calm : (loses_in r e.acts ≡ false) ⊎ (brings_body ev ≡ false)) where
    reader : IsBound t r c k
    reader = sound.is_bound lo hi how row.row at

    -- IT DOESN'T LEAVE

    cancels_not : ev ≡ event.Cancel c → ⊥
    cancels_not here =
        let heard : u.place ≡ (consumer_heard t e c ev k).place =
        heard_place step c r lo hi how k u (λ d want polls. let no : event.Cancel c ≡ event.Poll d want = sym here ∙ polls in cc) row in
        let over : (consumer_heard t e c (event.Cancel c) k).place ≡ place.Over = (let test : nat_eq c c ≡ true = grind (arith, nat_tests) in rw test refl) in
        let no : place.Over ≡ place.Bound r lo hi how = sym over ∙ (sym (ap (λ z. (consumer_heard t e c z k).place) here) ∙ (sym heard ∙ stands)) in cc

    leaves_not : leaves_in c e.acts ≡ true → ⊥
    leaves_not leaves = false_true (sym row.leaves ∙ leaves)

    pub leaver_not : (z : Event) → ev ≡ z → leaver_by z b.acts ≡ Some c → ⊥
    leaver_not (event.Cancel d) here h = cancels_not (here ∙ ap event.Cancel (some_inj d c h))
    leaver_not _ here h = leaves_not (leaver_leaves limits t now flaw s ev c h)

    -- THE WRITING'S EXCHANGE

    module _ (w : Exchange) (g : IsGrowing t r v x w) (was_open : w.is_open ≡ true) where
      doomed_not : is_doomed t b x w ≡ true → ⊥
      doomed_not h = none_of w.head (and_right w.is_open _ (and_right _ _ (and_left _ _ h))) g.headed

      losing_not : loses_group t b r v ≡ true → ⊥
      losing_not h = by_calm calm
        where
          by_calm : (loses_in r e.acts ≡ false) ⊎ (brings_body ev ≡ false) → ⊥
          by_calm (inl quiet) = false_true (sym quiet ∙ (sym (loses_same r) ∙ and_right _ _ (and_left _ _ h)))
          by_calm (inr other) = false_true (sym other ∙ and_left _ _ (and_left _ _ h))

      lost_not : has_no_survivor t b x (family x w) (t.representation (family x w)) ≡ true → ⊥
      lost_not h =
          let here : has_no_survivor t b x r (Some v) ≡ true =
          sym (ap (λ n. has_no_survivor t b x n (t.representation n)) g.family_is ∙ ap (has_no_survivor t b x r) there) ∙ h in
          losing_not (and_right (is_number v.writer x) _ (and_left _ _ here))

      own_is : (l : ℕ) (q : Consumer) (z : Option ℕ) → t.consumer l ≡ Some q → q.own ≡ z → option_and_then (if_open t) z ≡ Some x → q.own ≡ Some x
      own_is l q z row mine h = grind (arith, nat_tests)

      -- a writing of this exchange is of r
      writes_r : (q : ℕ) (z : Option Representation) → t.representation q ≡ z → group_in t z ≡ Some x → q ≡ r
      writes_r q None row h = absurd (none_some x h)
      writes_r q (Some a) row h = elim (bool_cases (is_written t a)) [
        | inr off ↦ absurd (none_some x (rw off at h))
        | inl also ↦
            let grows = (s.rows q a row).growing x also (rw also at h) in
            let one : grows.0 ≡ w = same_row (t.exchange x) grows.0 w (grows.1).row g.row in
            sym (grows.1).family_is ∙ (ap (family x) one ∙ g.family_is)
      ]

      among_bound : Among c (bound t r)
      unfolding bound
      among_bound = among_filter c (λ d. is_bound r (t.consumer d)) t.starts
          (ap (is_bound r) row.row ∙
          (ap (λ (z : Place). Rattle.hc_model.specs.Reading.is_bound_place r z) at ∙ (let test : nat_eq r r ≡ true = grind (arith, nat_tests) in test)))
          (s.numbered.lists.started c (ap (λ (z : Option Consumer). is_some z) row.row))

      last_is : (l : ℕ) (z : Place) → shared_exchange t z ≡ Some x → is_last_reader t l z ≡ true → c ≡ l
      last_is l (place.Bound q a d g_by) h all =
          all_same l c (bound t r) (ap (λ n. list_all (λ z. z == l) (bound t n)) (sym (writes_r q (t.representation q) refl h)) ∙ all) among_bound
      last_is l _ h all = absurd (none_some x h)

      left_row : (l : ℕ) (z : Option Consumer) → t.consumer l ≡ z → is_left_by t x l z ≡ true → c ≡ l
      left_row l None row h = absurd (false_true h)
      left_row l (Some q) row h = elim (or_cases (is_number (own_open t q) x) _ h) [
        | inl own ↦ absurd (o.apart r x l v q there on writer row (own_is l q q.own row refl (number_is (own_open t q) x own)))
        | inr group ↦ last_is l q.place (number_is (shared_exchange t q.place) x (and_left _ (is_last_reader t l q.place) group))
            (and_right _ (is_last_reader t l q.place) group)
      ]

      left_not : (z : Option ℕ) → leaver b ≡ z → is_left t x z ≡ true → ⊥
      left_not None is h = false_true h
      left_not (Some l) is h = leaver_not ev refl (is ∙ ap Some (sym (left_row l (t.consumer l) refl h)))

      not_must : must_close t b x w ≡ true → ⊥
      not_must must = elim (or_cases _ (is_left t x (leaver b)) must) [
        | inr left ↦ left_not (leaver b) refl left
        | inl more ↦ elim (or_cases _ (has_no_survivor t b x (family x w) (t.representation (family x w))) more) [
          | inr lost_it ↦ lost_not lost_it
          | inl less ↦ elim (or_cases (is_refused (case_at t b) && brings_head x ev) (is_doomed t b x w) less) [
            | inl refused ↦ refused_not step m r x v p w there on writer kept g was_open ev refl (and_right _ _ refused)
            | inr doomed ↦ doomed_not doomed
          ]
        ]
      ]

      not_closed : closes_in x e.acts ≡ true → ⊥
      not_closed shut = not_must (had_to limits t now flaw s ev x w g.row shut)

      -- WHY IT ENDS

      stop_is_none : exchange_in ev ≡ Some x → stop_cause t ev ≡ None
      stop_is_none brings =
          let from_x : source t k ≡ Some x = source_is t r c x v k s there reader on writer in
          let test : is_same_number (source t k) (exchange_in ev) ≡ true = ap (λ z. is_same_number z (exchange_in ev)) from_x ∙
          (ap (is_same_number (Some x)) brings ∙ (let self : nat_eq x x ≡ true = grind (arith, nat_tests) in self)) in
          let none : (if is_same_number (source t k) (exchange_in ev) then stop_cause t ev else None) ≡ None = (undue_parts t e c k undue).stop in
          sym (ap (λ (a : Bool). if a then stop_cause t ev else None) test) ∙ none

      unfaulted : ev ≡ event.Fault x → ⊥
      unfaulted faults =
          let no : Some (cause.Net x) ≡ None = sym (ap (stop_cause t) faults) ∙ stop_is_none (ap exchange_in faults) in
          some_none (cause.Net x) no

      enough : ev ≡ event.End x → (n : ℕ) → promised_bytes w ≡ Some n → n ≤ length w.body
      enough here n is = elim (bool_cases (nat_lt (length w.body) n)) [
        | inl short ↦ absurd (some_none _ (rw short at none_short))
        | inr long ↦ grind (arith, nat_tests)
      ]
        where
          none_short : short_of x w (Some n) ≡ None
          none_short = sym (ap (short_of x w) is) ∙ (sym (ap (short_cause x) g.row) ∙ (sym (ap (stop_cause t) here) ∙ stop_is_none (ap exchange_in here)))

      ends_with_all : is_open (now_on.exchange x) ≡ false → IsAll p
      ends_with_all off = ends_all step m r x v p w there on writer kept g was_open calm not_closed unfaulted enough ev refl off

    writer_was_open : (w : Exchange) → t.exchange x ≡ Some w → w.is_open ≡ true
    writer_was_open w exchange_row = sym (ap is_open exchange_row) ∙ (is_on t v x on writer).open_now

    -- Where the writing is over, all of it is stored.
    pub all_stored : is_open (now_on.exchange x) ≡ false → IsAll p
    all_stored off =
        let grows = (s.rows r v there).growing x on writer in
        ends_with_all grows.0 grows.1 (writer_was_open grows.0 (grows.1).row) off
