-- Whoever and whatever an entry does not speak of stays as it was, but for what becomes gone, and who waits for that.
--
-- An exchange, a representation or a consumer of which neither event nor acts speak stays (`exchange_stays`,
-- `representation_stays`, `consumer_stays`). Such a consumer starts over just where its key is doomed while it waits,
-- or what it waits for goes (`starts_as`). Nothing becomes due for it, if it reads no writing that is lost
-- (`undue_apart`). `consumer_apart` joins these. The effects of all events are built on this file.
use Rattle.std.{proofs.{lemmas.Bool.Decides.{nat_tests}, Common.{arith, ◌≡◌, ℕ, ◌+◌, List, length, Bool, true, false, Option, Some, None, refl, ap, ◌∙◌}}, specs.Prelude.{◌&&◌, ◌||◌, not, nat_eq, if◌then◌else◌}}
use Rattle.hc_text.proofs.Basics.{plus_none}
use Rattle.hc_effects.proofs.Vocabulary.{Opening, opening_in, asks_in, closes_in, leaves_in, shows_in, given_in, Act, Event, Place, BoundBy, loses_in, fails_in, Showing, showing_in, case_at, case_of, is_founding, consumer_after, consumer_settled, consumer_acted, consumer_heard, consumer_made, by_opening, waiting, waiting_place, shown_place, own_after, due_after, back_in_line, doomed_key_of, is_key, as_gone, Entry, exchange_after, exchange_heard, exchange_acted, family, exchange_in, exchange_at, is_for, becomes_due, cause_of_stop, cause_of_loss, cause_of_head, becomes_gone, goes_in, reads, is_written, representation_after, representation_heard, founded_at, updates, Tables, Exchange, Representation, Consumer, starts_over, sends_back, waits_at, loses_what_it_waits_for, binds, loses_group, brings_body}
use Rattle.hc_event.specs.declared.event.Event.TheVariants as event
use Rattle.hc_event.specs.declared.place.Place.TheVariants as place
use Rattle.hc_effects.proofs.{ActParts.{IsFarFrom}, Dues.{undue_of, stop_none}, Tests.{and_false}}

-- what the acts make of a consumer that its opening left as q
abbrev pub acted_by : Tables → Entry → ℕ → Consumer → Consumer → Consumer
acted_by t e c k q = record q {
  place = if leaves_in c e.acts then place.Over else shown_place c (showing_in e.acts) q.place;
  own = own_after t e c k.place q.own;
  shown = shows_in c e.acts || q.shown;
  given = q.given + length (given_in c e.acts);
}

-- EXCHANGES

-- the event brings nothing of it
pub unheard : (t : Tables) (e : Entry) (y : ℕ) (w : Exchange) (ev : Event) → ((x : ℕ) → exchange_in ev ≡ Some x → nat_eq x y ≡ false) →
    exchange_heard t e y ev w ≡ w
unheard t e y w ev other = grind (arith, nat_tests)

pub exchange_stays : (t : Tables) (e : Entry) (y : ℕ) (w : Exchange) → exchange_heard t e y e.event w ≡ w → asks_in y e.acts ≡ false → closes_in
    y e.acts ≡ false
    → exchange_after t e y (Some w) ≡ Some w
unfolding exchange_after
exchange_stays t e y w heard asks closes = ap (λ (u : Exchange). Some (exchange_acted y e.acts u)) heard ∙ rw (asks, closes) refl

pub exchange_absent : (t : Tables) (e : Entry) (y : ℕ) → ((o : Opening) → opening_in e.acts ≡ Some o → nat_eq o.x y ≡ false) → exchange_after t e y None ≡ None
unfolding exchange_after
exchange_absent t e y other = grind (arith, nat_tests)

-- REPRESENTATIONS

-- the exchange of an event is of another family, and doesn't update it
pub record IsOutside (t : Tables) (e : Entry) (r : ℕ) (v : Representation) (x : ℕ) (w : Exchange) : Type 0 where
  pub number : nat_eq x r ≡ false
  pub family_is : nat_eq (family x w) r ≡ false
  pub updates : updates t e r w v ≡ false

-- it stays, or becomes gone
pub representation_frame : (t : Tables) (e : Entry) (r : ℕ) (v : Representation) → representation_heard t e r e.event v ≡ v → loses_in r e.acts ≡ false
    → representation_after t e r (Some v) ≡ Some (if becomes_gone t e r v then as_gone v else v)
unfolding representation_after
representation_frame t e r v heard lossless = grind (arith, nat_tests)

pub representation_stays : (t : Tables) (e : Entry) (r : ℕ) (v : Representation) → representation_heard t e r e.event v ≡ v → loses_in r e.acts ≡ false →
    becomes_gone t e r v ≡ false
    → representation_after t e r (Some v) ≡ Some v
representation_stays t e r v heard lossless stays = representation_frame t e r v heard lossless ∙ rw stays refl

pub representation_absent : (t : Tables) (e : Entry) (r : ℕ) → founded_at t e r e.event ≡ None → representation_after t e r None ≡ None
unfolding representation_after
representation_absent t e r none = none

-- CONSUMERS

-- no writing that it reads with others is lost
abbrev pub IsSpared : Tables → Entry → Place → Type 0
IsSpared t e p = (r lo : ℕ) (hi : Option ℕ) (how : BoundBy) (v : Representation) → p ≡ place.Bound r lo hi how → t.representation r ≡ Some v →
    loses_group t e r v ≡ false

pub spared_bodiless : (t : Tables) (e : Entry) (p : Place) → brings_body e.event ≡ false → IsSpared t e p
spared_bodiless t e p bodiless =
    λ r lo hi how v at row. and_false (brings_body e.event && loses_in r e.acts) (is_written t v) (and_false (brings_body e.event) (loses_in r e.acts) bodiless)

-- its own exchange stays its own
pub own_stays : (t : Tables) (e : Entry) (c : ℕ) (p : Place) (own : Option ℕ) → IsSpared t e p → own_after t e c p own ≡ own
own_stays t e c p own spared = grind (arith, nat_tests)

-- what is due stays due
pub due_stays : (t : Tables) (e : Entry) (c : ℕ) (k : Consumer) → becomes_due t e c k ≡ None → (reads k.place ≡ false → k.due ≡ None) → due_after t e c k k ≡ k
due_stays t e c k undue idle = grind (arith, nat_tests)

-- it waits for what becomes gone
abbrev pub goes_from : Tables → Entry → Place → Bool
goes_from t e (place.Passed r kept) = goes_in t e r (t.representation r)
goes_from t e _ = false

-- who doesn't fail, and whose head doesn't send it back, starts over where its key is doomed while it waits, or what it waits for becomes gone
pub starts_as : (t : Tables) (e : Entry) (c : ℕ) (k : Consumer) → fails_in c e.acts ≡ false →
    (sends_back (case_at t e) && is_for (exchange_at t e.event) c) ≡ false
    → starts_over t e c k ≡ ((is_key (doomed_key_of t e) k.request.key && waits_at t k.place) || goes_from t e k.place)
unfolding starts_over
starts_as t e c k fails sends =
    three (is_key (doomed_key_of t e) k.request.key && waits_at t k.place) (sends_back (case_at t e) && is_for (exchange_at t e.event) c)
    (loses_what_it_waits_for t e c k.place) (goes_from t e k.place) sends (by_place k.place)
  where
    three : (a b d f : Bool) → b ≡ false → d ≡ f → (a || b || d) ≡ (a || f)
    three true b d f off same = refl
    three false b d f off same = rw off same

    and_yes : (b : Bool) → (b && not false) ≡ b
    and_yes true = refl
    and_yes false = refl

    by_place : (p : Place) → loses_what_it_waits_for t e c p ≡ goes_from t e p
    by_place (place.Passed r kept) = rw fails (and_yes (goes_in t e r (t.representation r)))
    by_place _ = refl

-- the event isn't about it: it hears nothing, no head sends it back, and nothing becomes due for it by a stop or a head
pub record IsApart (t : Tables) (e : Entry) (c : ℕ) (k : Consumer) : Type 0 where
  pub heard : consumer_heard t e c e.event k ≡ k
  pub stops : cause_of_stop t e k ≡ None
  pub heads : cause_of_head t e c e.event ≡ None
  pub sends : (sends_back (case_at t e) && is_for (exchange_at t e.event) c) ≡ false

-- an event of an exchange that was opened for another
module _ (t : Tables) (e : Entry) (c : ℕ) (k : Consumer) (x : ℕ) (w : Exchange) (row : t.exchange x ≡ Some w) (other : nat_eq w.c c ≡ false) where
  -- where nothing is due by its stop
  pub apart_from : exchange_in e.event ≡ Some x → cause_of_stop t e k ≡ None → IsApart t e c k
  apart_from is unstopped = grind (arith, nat_tests)

-- a piece and a doom say nothing of any consumer, and an end but that what it reads stops
pub apart_piece : (t : Tables) (now x : ℕ) (bytes : List ℕ) (acts : List Act) (c : ℕ) (k : Consumer) →
    IsApart t (record { now = now; event = event.Piece x bytes; acts = acts }) c k
unfolding case_of
apart_piece t now x bytes acts c k =
    record { heard = refl; stops = stop_none t (record { now = now; event = event.Piece x bytes; acts = acts }) k refl; heads = refl; sends = refl }

-- no failure becomes due by the loss of a writing that it doesn't read
pub loss_spared : (t : Tables) (e : Entry) (c : ℕ) (p : Place) → IsSpared t e p → cause_of_loss t e c p ≡ None
loss_spared t e c p spared = grind (arith, nat_tests)

pub undue_apart : (t : Tables) (e : Entry) (c : ℕ) (k : Consumer) → IsApart t e c k → IsSpared t e k.place → becomes_due t e c k ≡ None
undue_apart t e c k apart spared = undue_of t e c k (record { stop = apart.stops; loss = loss_spared t e c k.place spared; head = apart.heads })

module _ (t : Tables) (e : Entry) (c : ℕ) (k : Consumer) (said : IsFarFrom c e.acts) (spared : IsSpared t e k.place)
    (heard : consumer_heard t e c e.event k ≡ k) where
  opening_stays : (o : Option Opening) → opening_in e.acts ≡ o → by_opening t c o k ≡ k
  opening_stays None is = refl
  opening_stays (Some o) is = rw (said.opens o is) refl

  showing_stays : (o : Option Showing) → showing_in e.acts ≡ o → shown_place c o k.place ≡ k.place
  showing_stays None is = refl
  showing_stays (Some s) is = rw (said.showing s is) refl

  waiting_stays : waiting t e c k ≡ k
  waiting_stays = ap (λ o. record k { place = waiting_place t k o }) said.waits

  same_parts : (p : Place) (own : Option ℕ) (shown : Bool) (given : ℕ) → p ≡ k.place → own ≡ k.own → shown ≡ k.shown → given ≡ k.given →
      record k { place = p; own = own; shown = shown; given = given } ≡ k
  same_parts p own shown given a b d f = rw (a, b, d, f) refl

  pub acted_stays : consumer_acted t e c k ≡ k
  acted_stays =
      let q_is : by_opening t c (opening_in e.acts) (waiting t e c k) ≡ k = ap (by_opening t c (opening_in e.acts)) waiting_stays ∙
      opening_stays (opening_in e.acts) refl in
      ap (acted_by t e c k) q_is
      ∙ same_parts _ _ _ _ (rw said.leaves (showing_stays (showing_in e.acts) refl)) (own_stays t e c k.place k.own spared) (rw said.shows refl)
      (ap (λ bytes. k.given + length bytes) said.given ∙ plus_none k.given)

  -- it stays, or starts over
  pub consumer_frame : becomes_due t e c k ≡ None → (reads k.place ≡ false → k.due ≡ None) →
      consumer_after t e c (Some k) ≡ Some (if starts_over t e c k then back_in_line e.now k else k)
  unfolding consumer_after
  consumer_frame undue idle =
      ap Some (ap (consumer_settled t e c k) (ap (consumer_acted t e c) heard ∙ acted_stays) ∙
      ap (λ (q : Consumer). if starts_over t e c k then back_in_line e.now k else q) (due_stays t e c k undue idle))

  pub consumer_stays : becomes_due t e c k ≡ None → (reads k.place ≡ false → k.due ≡ None) → starts_over t e c k ≡ false →
      consumer_after t e c (Some k) ≡ Some k
  consumer_stays undue idle goes_on = consumer_frame undue idle ∙ rw goes_on refl

-- whom nothing is said of stays, or starts over exactly where its key is doomed while it waits, or what it waits for becomes gone
pub consumer_apart : (t : Tables) (e : Entry) (c : ℕ) (k : Consumer) → IsFarFrom c e.acts → IsSpared t e k.place → IsApart t e c k →
    (reads k.place ≡ false → k.due ≡ None)
    → consumer_after t e c (Some k) ≡ Some
    (if (is_key (doomed_key_of t e) k.request.key && waits_at t k.place) || goes_from t e k.place then back_in_line e.now k else k)
consumer_apart t e c k said spared apart idle =
    consumer_frame t e c k said spared apart.heard (undue_apart t e c k apart spared) idle
    ∙ ap (λ (b : Bool). Some (if b then back_in_line e.now k else k)) (starts_as t e c k said.fails apart.sends)

pub consumer_absent : (t : Tables) (e : Entry) (c : ℕ) → consumer_made c e.now e.event ≡ None → consumer_after t e c None ≡ None
unfolding consumer_after
consumer_absent t e c none = none

-- LISTS

pub binds_nobody : (t : Tables) (e : Entry) → is_founding (case_at t e) ≡ false → opening_in e.acts ≡ None → showing_in e.acts ≡ None → binds t e ≡ None
binds_nobody t e off opens shows = rw (off, opens, shows) refl
