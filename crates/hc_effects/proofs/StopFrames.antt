-- What an end or a fault comes to: who reads from the exchange, what is sealed, lost or let go with it.
--
-- `Stops` says what an end and a fault have in common (`end_stops`, `fault_stops`), so all else is proved once for
-- both. Its reader is the one that owns it (`reads_own`), or whoever is bound to what is written from it
-- (`reads_shared`). A representation goes if it is lost or let go (`goes_with`), and else is as long as is heard
-- (`row_by`). Who reads from it fails, and nobody else (`unhit`). `stop_does` joins this into the tables.
use Rattle.std.{proofs.{lemmas.Bool.Decides.{nat_tests}, Common.{arith, ◌≡◌, inl, inr, ℕ, List, [], ◌++◌, Bool, true, false, Option, Some, None, refl, ap, sym, ◌∙◌}}, specs.{Prelude.{◌&&◌, ◌||◌, ◌==◌, not, nat_eq, length, is_some, if◌then◌else◌, option_map}, Option.{option_or}}}
use Rattle.hc_text.proofs.Basics.{bool_cases, eqb-same, not_some as none_some, or_none as or_nothing, same_some as same_row, and_off as then_false}
use Rattle.hc_effects.proofs.Vocabulary.{brings_whole, Act, Cause, Event, is_same_number, Limits, Place, loses_in, loss_acts, closing, leaver, consumer_after, consumer_heard, own_after, is_current, is_number, denial, doomed_key_of, Does, with_event, with_exchange, failing, let_all_go, as_gone, over, at_end, going_with, Entry, entry_without_acts, exchange_heard, family, exchange_in, becomes_due, cause_of_stop, cause_of_head, stop_cause, short_cause, Flaw, beside, becomes_gone, ends_early, ends_founding, stops_early, is_short, is_keepable, Lawful, is_bound_place, is_written, own_open, shared_exchange, source, group_in, reads, representation_after, representation_heard, with_total_if_none, length_in, Tables, Exchange, Representation, Consumer, write_in, brings_body, cause, place}
use Rattle.hc_event.specs.declared.event.Event.TheVariants as event
use Rattle.hc_rules.specs.Refusals as refusals
use Rattle.hc_model.specs.Sound as sound
use Rattle.hc_effects.proofs.{AboutKeeps.{own_open_of, own_open_is}, Basics.{false_true, number_is}, FewClosings.{closes_nothing, quiet_closes}, Frames.{undoomed, may_doom}, KeyActs.{test_some}, PieceKeeps.{eq_cases}, SameTables.{is_in, back_from_any}, Stops.{source_is}, Tests.{and_false}, ReportedFrames.{IsReceived, says_little, exchange_one, goes_as, closes_as, representation_by, representation_none, beside_same, consumer_by, reported_by, reported_plainly}, Untouched.{IsSpared, own_stays, loss_spared, spared_bodiless}}
use Rattle.hc_effects.proofs.ReportedFrames as reported

-- WHAT STOPS

-- x ends or faults
pub data IsStop (x : ℕ) : Event → Type 0 where
  ends : IsStop x (event.End x)
  faults : IsStop x (event.Fault x)

-- what becomes of it, why that is less than it should be, what becomes of what it founded, and whether that ends early
pub record Stops (t : Tables) (now x : ℕ) (w : Exchange) (ev : Event) : Type 0 where
  pub is_reported : IsReceived ev
  pub names : exchange_in ev ≡ Some x
  pub bodiless : brings_body ev ≡ false
  pub calm : may_doom ev ≡ false
  pub unwritten : write_in t (entry_without_acts now ev) ev ≡ None
  pub u : Exchange
  pub heard : (acts : List Act) → exchange_heard t (record { now = now; event = ev; acts = acts }) x ev w ≡ u
  pub why : Option Cause
  pub why_is : stop_cause t ev ≡ why
  pub headless : (c : ℕ) (acts : List Act) → cause_of_head t (record { now = now; event = ev; acts = acts }) c ev ≡ None
  pub longer : Representation → Representation
  pub itself : (v : Representation) (acts : List Act) → representation_heard t (record { now = now; event = ev; acts = acts }) x ev v ≡ longer v
  pub other : (q : ℕ) (v : Representation) (acts : List Act) → nat_eq x q ≡ false →
      representation_heard t (record { now = now; event = ev; acts = acts }) q ev v ≡ v
  pub early : Bool
  pub early_is : (q : ℕ) (z : Exchange) → t.exchange q ≡ Some z → stops_early z q ev ≡ (x == q && early)

abbrev pub end_stops : (t : Tables) (now x : ℕ) (w : Exchange) → t.exchange x ≡ Some w → Stops t now x w (event.End x)
end_stops t now x w row = record {
  is_reported = reported.ends x;
  names = refl;
  bodiless = refl;
  calm = refl;
  unwritten = refl;
  u = at_end w;
  heard = λ acts. rw (eqb-same x) refl;
  why = short_cause x (Some w);
  why_is = ap (short_cause x) row;
  headless = λ c acts. refl;
  longer = with_total_if_none (length w.body);
  itself = λ v acts. rw (eqb-same x) (ap (λ z. with_total_if_none (length_in z) v) row);
  other = λ q v acts apart. rw apart refl;
  early = is_short w;
  early_is = λ q z is. elim (eq_cases x q) [
    | inl same ↦ ap (λ (p : Exchange). nat_eq x q && is_short p) (same_row (t.exchange q) z w is (sym (ap t.exchange same.1) ∙ row))
    | inr apart ↦ rw apart.0 refl
  ];
}

abbrev pub fault_stops : (t : Tables) (now x : ℕ) (w : Exchange) → Stops t now x w (event.Fault x)
fault_stops t now x w = record {
  is_reported = reported.faults x;
  names = refl;
  bodiless = refl;
  calm = refl;
  unwritten = refl;
  u = over w;
  heard = λ acts. rw (eqb-same x) refl;
  why = Some (cause.Net x);
  why_is = refl;
  headless = λ c acts. refl;
  longer = λ v. v;
  itself = λ v acts. refl;
  other = λ q v acts apart. refl;
  early = true;
  early_is = λ q z is. by_test (nat_eq x q);
}
  where
    by_test : (b : Bool) → b ≡ (b && true)
    by_test b = grind (arith, nat_tests)

-- an accepted end is one of an open exchange with a head, and a fault one of an open exchange
pub record IsEnding (w : Exchange) : Type 0 where
  pub was_open : w.is_open ≡ true
  pub headed : is_some w.head ≡ true

pub end_of : (t : Tables) (x : ℕ) (w : Exchange) → t.exchange x ≡ Some w → denial t (event.End x) ≡ None → IsEnding w
unfolding refusals.refusal_of
end_of t x w row accepts = grind (arith, nat_tests)

pub fault_of : (t : Tables) (x : ℕ) (w : Exchange) → t.exchange x ≡ Some w → denial t (event.Fault x) ≡ None → w.is_open ≡ true
unfolding refusals.refusal_of
fault_of t x w row accepts = grind (arith, nat_tests)

-- WHO READS FROM IT

module _ (t : Tables) (law : Lawful t) (x : ℕ) (w : Exchange) (row : t.exchange x ≡ Some w) (on : w.is_open ≡ true) where
  same_refl : is_same_number (Some x) (Some x) ≡ true
  same_refl = eqb-same x

  same_is : (o : Option ℕ) → is_same_number o (Some x) ≡ true → o ≡ Some x
  same_is None h = absurd (false_true h)
  same_is (Some y) h = number_is (Some y) x h

  same_not : (o : Option ℕ) → (o ≡ Some x → ⊥) → is_same_number o (Some x) ≡ false
  same_not o never = elim (bool_cases (is_same_number o (Some x))) [ inl here ↦ absurd (never (same_is o here)) | inr off ↦ off ]

  -- what is written together is read by who is bound to it
  pub record IsShared (k : Consumer) : Type 0 where
    pub q : ℕ
    pub v : Representation
    pub bound_it : is_bound_place q k.place ≡ true
    pub there : t.representation q ≡ Some v
    pub written : is_written t v ≡ true
    pub writer : v.writer ≡ Some x

  shared_row : (k : Consumer) (q : ℕ) (z : Option Representation) → t.representation q ≡ z → is_bound_place q k.place ≡ true → group_in t z ≡ Some x →
      IsShared k
  shared_row k q None there bound_it is = absurd (none_some x is)
  shared_row k q (Some v) there bound_it is = let both = test_some (is_written t v) v.writer x is in
      record { q = q; v = v; bound_it = bound_it; there = there; written = both.0; writer = both.1 }

  shared_of : (k : Consumer) (p : Place) → k.place ≡ p → shared_exchange t p ≡ Some x → IsShared k
  shared_of k (place.Bound q lo hi how) at is = shared_row k q (t.representation q) refl (ap (is_bound_place q) at ∙ eqb-same q) is
  shared_of k _ at is = absurd (none_some x is)

  -- it reads its own, or what is written together
  pub data IsSource (k : Consumer) : Type 0 where
    own : k.own ≡ Some x → IsSource k
    shares : IsShared k → IsSource k

  source_of : (k : Consumer) → source t k ≡ Some x → IsSource k
  source_of k is = by_own (own_open t k) refl is
    where
      by_own : (z : Option ℕ) → own_open t k ≡ z → option_or z (shared_exchange t k.place) ≡ Some x → IsSource k
      by_own (Some y) mine h = own (own_open_of t k x (mine ∙ h)).own
      by_own None mine h = shares (shared_of k k.place refl h)

  own_source : (k : Consumer) → k.own ≡ Some x → source t k ≡ Some x
  own_source k mine = let opened : own_open t k ≡ Some x = own_open_is t k x (record { own = mine; w = w; row = row; opened = on }) in rw opened refl

  -- where one owns it, that one alone
  pub reads_own : (c d : ℕ) (k z : Consumer) → t.consumer c ≡ Some k → k.own ≡ Some x → t.consumer d ≡ Some z →
      is_same_number (source t z) (Some x) ≡ nat_eq c d
  reads_own c d k z here mine there = elim (eq_cases c d) [
    | inl same ↦
        let one : k ≡ z = same_row (t.consumer d) k z (sym (ap t.consumer same.1) ∙ here) there in
        ap (λ o. is_same_number o (Some x)) (own_source z (sym (ap (λ (p : Consumer). p.own) one) ∙ mine)) ∙ (same_refl ∙ sym same.0)
    | inr apart ↦ same_not (source t z) (λ is. not_it apart.1 (source_of z is)) ∙ sym apart.0
  ]
    where
      not_it : (c ≡ d → ⊥) → IsSource z → ⊥
      not_it apart (own its) = apart (law.owned.one c d x k z here there mine its)
      not_it apart (shares s) = law.owned.apart s.q x c s.v k s.there s.written s.writer here mine

  -- where it is written for several, whoever is bound to that
  pub reads_shared : (r : ℕ) (v : Representation) → t.representation r ≡ Some v → is_written t v ≡ true → v.writer ≡ Some x → (d : ℕ) (z : Consumer) →
      t.consumer d ≡ Some z → is_same_number (source t z) (Some x) ≡ is_bound_place r z.place
  reads_shared r v there written writer d z is_row = by_place z.place refl
    where
      -- both are of its family
      one : (s : IsShared z) → s.q ≡ r
      one s =
          let a = (law.sound.rows s.q s.v s.there).growing x s.written s.writer in
          let b = (law.sound.rows r v there).growing x written writer in
          sym a.1.family_is ∙ (ap (family x) (same_row (t.exchange x) a.0 b.0 a.1.row b.1.row) ∙ b.1.family_is)

      unbound : (p : Place) → z.place ≡ p → is_bound_place r p ≡ false → IsSource z → ⊥
      unbound p at off (own its) = law.owned.apart r x d v z there written writer is_row its
      unbound p at off (shares s) = false_true (sym off ∙ (sym (ap (is_bound_place r) at) ∙ (ap (λ n. is_bound_place n z.place) (sym (one s)) ∙ s.bound_it)))

      other : (p : Place) → z.place ≡ p → is_bound_place r p ≡ false → is_same_number (source t z) (Some x) ≡ is_bound_place r p
      other p at off = same_not (source t z) (λ is. unbound p at off (source_of z is)) ∙ sym off

      by_place : (p : Place) → z.place ≡ p → is_same_number (source t z) (Some x) ≡ is_bound_place r p
      by_place (place.Bound q lo hi how) at = elim (eq_cases q r) [
        | inl same ↦
            ap (λ o. is_same_number o (Some x))
            (source_is t r d x v z law.sound there (sound.is_bound lo hi how is_row (at ∙ ap (λ n. place.Bound n lo hi how) same.1)) written writer) ∙
            (same_refl ∙ sym same.0)
        | inr apart ↦ other (place.Bound q lo hi how) at apart.0
      ]
      by_place p at = other p at refl

-- THE TABLES

module _ (limits : Limits) (t : Tables) (law : Lawful t) (now x : ℕ) (w : Exchange) (row : t.exchange x ≡ Some w) (on : w.is_open ≡ true) (ev : Event)
    (s : Stops t now x w ev) (flaw : Flaw) where
  abbrev pub it : Entry
  it = reported.e t now ev s.is_reported flaw []

  abbrev b : Entry
  b = record { now = now; event = ev; acts = loss_acts flaw }

  doomless : (acts : List Act) → doomed_key_of t (record { now = now; event = ev; acts = acts }) ≡ None
  doomless acts = undoomed t (record { now = now; event = ev; acts = acts }) s.calm

  leaves_none : leaver b ≡ None
  leaves_none = grind (arith, nat_tests)

  closes_none : closing t b ≡ []
  closes_none = closes_nothing t b
      (quiet_closes t b ((says_little t now ev s.is_reported).caseless (loss_acts flaw)) (doomless (loss_acts flaw)) s.bodiless) leaves_none

  -- what goes: what is lost, and what it founded, where that is early and can't be completed
  abbrev pub going : Option ℕ
  going = if s.early then going_with t (Some x) else None

  pub goes_with : (q : ℕ) (v : Representation) → t.representation q ≡ Some v → becomes_gone t it q v ≡ (loses_in q (loss_acts flaw) || is_number going q)
  goes_with q v there =
      goes_as t now ev s.is_reported flaw [] q v
      ∙ rw (doomless it.acts) (drop (is_current t v.key q) (loses_in q (loss_acts flaw)) (ends_early t it q v && not (is_keepable v)) ∙
      ap (λ a. loses_in q (loss_acts flaw) || a) (early_by (t.exchange q) refl))
    where
      drop : (a c d : Bool) → ((a && false) || c || d) ≡ (c || d)
      drop a c d = grind (arith, nat_tests)

      going_is : nat_eq x q ≡ true → x ≡ q → (brings_whole v.head.status && not (is_keepable v)) ≡ is_number (going_with t (Some x)) q
      going_is test same = grind (arith, nat_tests)

      not_going : nat_eq x q ≡ false → false ≡ is_number going q
      not_going apart = grind (arith, nat_tests)

      founding : (z : Exchange) → t.exchange q ≡ Some z → ends_founding it q (Some z) ≡ (z.is_open && (x == q && s.early))
      founding z is = grind (arith, nat_tests)

      three : (a c d : Bool) → ((a && (true && (true && c))) && d) ≡ (if c then (a && d) else false)
      three a c d = grind (arith, nat_tests)

      none_off : (a c d f : Bool) → ((a && (c && (false && d))) && f) ≡ false
      none_off a c d f = grind (arith, nat_tests)

      going_if : (e : Bool) → (if e then is_number (going_with t (Some x)) q else false) ≡ is_number (if e then going_with t (Some x) else None) q
      going_if e = grind (arith, nat_tests)

      early_by : (z : Option Exchange) → t.exchange q ≡ z → (ends_early t it q v && not (is_keepable v)) ≡ is_number going q
      early_by None is =
          let apart : nat_eq x q ≡ false =
          elim (eq_cases x q) [ inl same ↦ absurd (none_some w (sym is ∙ (sym (ap t.exchange same.1) ∙ row))) | inr other ↦ other.0 ] in
          ap (λ z. (brings_whole v.head.status && ends_founding it q z) && not (is_keepable v)) is
          ∙ (and_false (brings_whole v.head.status && false) (not (is_keepable v)) (then_false (brings_whole v.head.status) false refl) ∙ not_going apart)
      early_by (Some z) is =
          ap (λ o. (brings_whole v.head.status && ends_founding it q o) && not (is_keepable v)) is
          ∙ (ap (λ a. (brings_whole v.head.status && a) && not (is_keepable v)) (founding z is)
          ∙ elim (eq_cases x q) [
            | inl same ↦
                let opened : z.is_open ≡ true = ap (λ (p : Exchange). p.is_open) (same_row (t.exchange q) z w is (sym (ap t.exchange same.1) ∙ row)) ∙ on in
                rw (opened, same.0) (three (brings_whole v.head.status) s.early (not (is_keepable v)) ∙
                (ap (λ a. if s.early then a else false) (going_is same.0 same.1) ∙ going_if s.early))
            | inr apart ↦ rw apart.0 (none_off (brings_whole v.head.status) z.is_open s.early (not (is_keepable v)) ∙ not_going apart.0)
          ])

  -- REPRESENTATIONS

  abbrev pub longer_row : ℕ → Option Representation → Option Representation
  longer_row q z = if x == q then option_map s.longer z else z

  pub heard_is : (q : ℕ) (v : Representation) → Some (representation_heard t it q ev v) ≡ longer_row q (Some v)
  heard_is q v = grind (arith, nat_tests)

  -- what isn't lost
  pub row_by : (q : ℕ) (g : Bool) (z : Option Representation) → t.representation q ≡ z → loses_in q (loss_acts flaw) ≡ false →
      ((v : Representation) → z ≡ Some v → becomes_gone t it q v ≡ g) →
      representation_after t it q z ≡ (if g then option_map as_gone (longer_row q z) else longer_row q z)
  row_by q g None there kept goes = representation_none t now ev s.is_reported flaw [] q g ∙
      ap (λ o. if g then option_map as_gone o else o) (none_longer (x == q))
    where
      none_longer : (a : Bool) → None ≡ (if a then option_map s.longer None else None)
      none_longer true = refl
      none_longer false = refl
  row_by q g (Some v) there kept goes =
      representation_by t now ev s.is_reported flaw [] q v (representation_heard t it q ev v) g refl kept (goes v refl) ∙
      ap (λ o. if g then option_map as_gone o else o) (heard_is q v)

  -- CONSUMERS

  spared : (p : Place) → IsSpared t it p
  spared p = spared_bodiless t it p s.bodiless

  due_by : (c : ℕ) (k : Consumer) → becomes_due t it c k ≡ (if is_same_number (source t k) (Some x) then s.why else None)
  unfolding becomes_due
  due_by c k =
      rw (loss_spared t it c k.place (spared k.place), s.headless c it.acts)
      (or_nothing (cause_of_stop t it k) ∙
      (ap (λ o. if is_same_number (source t k) o then stop_cause t ev else None) s.names ∙
      ap (λ o. if is_same_number (source t k) (Some x) then o else None) s.why_is))

  pub unhit : (c : ℕ) (k : Consumer) → t.consumer c ≡ Some k → is_same_number (source t k) (Some x) ≡ false → beside t it c k ≡ k
  unhit c k here off = beside_same t now ev s.is_reported flaw [] c k (due_by c k ∙ ap (λ a. if a then s.why else None) off) (spared k.place)
      (law.owned.idle_due c k here)

  -- who reads from it fails by it, and nobody else
  module _ (hit : ℕ → Bool) (hits : (c : ℕ) (k : Consumer) → t.consumer c ≡ Some k → is_same_number (source t k) (Some x) ≡ hit c)
      (reading : (c : ℕ) (k : Consumer) → t.consumer c ≡ Some k → hit c ≡ true → reads k.place ≡ true) where
    pub fails : (c : ℕ) → option_map (beside t it c) (t.consumer c) ≡ (if hit c then option_map (failing s.why) (t.consumer c) else t.consumer c)
    fails c = by_row (t.consumer c) refl
      where
        none_left : (a : Bool) → None ≡ (if a then option_map (failing s.why) None else None)
        none_left a = grind (arith, nat_tests)

        parts : (k : Consumer) (own_now : Option ℕ) (due : Option Cause) (reads_it : Bool) → own_now ≡ k.own → due ≡ s.why → reads_it ≡ true →
            record k { own = own_now; due = if reads_it then option_or k.due due else None } ≡ failing s.why k
        parts k own_now due reads_it p q h = rw (p, q, h) refl

        by_test : (k : Consumer) (a : Bool) → t.consumer c ≡ Some k → hit c ≡ a →
            Some (beside t it c k) ≡ (if a then option_map (failing s.why) (Some k) else Some k)
        by_test k true here is =
            ap Some (parts k (own_after t it c k.place k.own) (becomes_due t it c k) (reads k.place) (own_stays t it c k.place k.own (spared k.place))
            (due_by c k ∙ ap (λ a. if a then s.why else None) (hits c k here ∙ is)) (reading c k here is))
        by_test k false here is = ap Some (unhit c k here (hits c k here ∙ is))

        by_row : (z : Option Consumer) → t.consumer c ≡ z → option_map (beside t it c) z ≡ (if hit c then option_map (failing s.why) z else z)
        by_row None here = none_left (hit c)
        by_row (Some k) here = by_test k (hit c) here refl

  -- ALL OF IT

  pub stop_does : denial t ev ≡ None → (rs : List ℕ) (vs : ℕ → Option Representation) (ks : ℕ → Option Consumer)
      → ((r : ℕ) → representation_after t it r (t.representation r) ≡ (if is_in rs r then option_map as_gone (vs r) else vs r))
      → ((c : ℕ) → consumer_after t it c (t.consumer c) ≡ option_map (back_from_any now rs) (ks c))
      → Does limits t now ev flaw (loss_acts flaw ++ [])
      (with_event now ev (let_all_go now rs (record (with_exchange x (Some s.u) t) { representation = vs; consumer = ks })))
  stop_does accepts rs vs ks rows consumers =
      reported_plainly t now ev s.is_reported flaw [] limits law accepts
      (let_all_go now rs (record (with_exchange x (Some s.u) t) { representation = vs; consumer = ks })) closes_none
      (reported_by t now ev s.is_reported flaw [] rs (with_exchange x (Some s.u) t).exchange vs ks
      (exchange_one t now ev s.is_reported flaw [] x w s.u s.names row (s.heard it.acts))
      rows consumers)
      s.unwritten

  -- where everybody hears nothing
  pub others_by : (rs : List ℕ) → ((q : ℕ) (v : Representation) → t.representation q ≡ Some v → becomes_gone t it q v ≡ is_in rs q) →
      (ks : ℕ → Option Consumer) → (c : ℕ) → ((k : Consumer) → t.consumer c ≡ Some k → consumer_heard t it c ev k ≡ k) →
      option_map (beside t it c) (t.consumer c) ≡ ks c
      → consumer_after t it c (t.consumer c) ≡ option_map (back_from_any now rs) (ks c)
  others_by rs goes ks c quiet same = consumer_by t now ev s.is_reported flaw [] law rs goes (doomless it.acts) c quiet ∙
      ap (option_map (back_from_any now rs)) same
