-- What an entry doesn't speak of stays.
--
-- First what the event says of each part of a representation: a head, a piece or an end of its own exchange, and else
-- nothing. With the acts that gives `parts_are_kept`. Why a representation goes is read off the tests of
-- `becomes_gone`, one by one. Where neither event nor acts speak of a representation, none of those reasons holds, so
-- its row stays as it was. The same for exchanges: an event and acts that do not speak of one leave its row.
use Rattle.std.{proofs.{Common.{◌≡◌, inl, inr, ℕ, List, Bool, true, false, Option, Some, None, refl, ap, sym, ◌∙◌, arith}, lemmas.Bool.Decides.{nat_tests}}, specs.Prelude.{◌==◌, ◌||◌, ◌&&◌, not, if◌then◌else◌}}
use Rattle.hc_text.proofs.Basics.{and_left, and_right, bool_cases, not_true as not_keepable, never_true as not_so, or_cases, some_inj}
use Rattle.hc_effects.proofs.Vocabulary.{brings_whole, Opening, opening_in, asks_in, closes_in, evicts_in, Event, Response, HeadCase, loses_in, misreads_in, has_loss, case_at, case_of, is_updating, current, is_current, is_number, doomed_key_of, bypass_key, is_key, Entry, entry_without_acts, exchange_after, exchange_heard, exchange_acted, exchange_made, family, exchange_at, exchange_in, becomes_gone, goes_itself, goes_by_case, goes_by_exchange, goes_by_head, is_current_of, ends_early, ends_founding, stops_early, is_keepable, representation_after, representation_heard, representation_acted, representation_after_head, updates, representation_after_piece, with_total_if_none, length_in, founded_at, Tables, Exchange, Representation, event, case}
use Rattle.hc_model.specs.Frames.{updates_row, is_headed, is_of_family, is_filled, is_ended, KeepsParts, PartsAreKept, answers_about, head_about, is_event_of, is_current_for, are_acts_of, speaks_of, OthersStay, OthersDontGo, GoesBy, GoneIsCaused, is_opened, speaks_of_exchange, ExchangesStay}
use Rattle.hc_model.specs.Frames as frames
use Rattle.hc_effects.proofs.{Basics.{false_true, or_false, number_is, number_yes}, KeyNames.{key_is}}

-- THE PARTS OF A REPRESENTATION

-- what the event says of each part
record HearsParts (t : Tables) (e : Entry) (r : ℕ) (v u : Representation) (ev : Event) : Type 0 where
  key : u.key ≡ v.key
  head : is_headed t e r v ev ≡ false → is_ended r ev ≡ false → u.head ≡ v.head
  writer : is_headed t e r v ev ≡ false → u.writer ≡ v.writer
  body : is_filled t r ev ≡ false → u.body ≡ v.body
  stored : is_filled t r ev ≡ false → u.stored ≡ v.stored
  reach : is_filled t r ev ≡ false → u.reach ≡ v.reach
  size : is_filled t r ev ≡ false → u.size ≡ v.size
  lost : u.is_lost ≡ v.is_lost
  alone : u.alone ≡ v.alone
  gone : u.is_gone ≡ v.is_gone

hears_none : (t : Tables) (e : Entry) (r : ℕ) (v : Representation) (ev : Event) → HearsParts t e r v v ev
hears_none t e r v ev = record {
  key = refl;
  head = λ a b. refl;
  writer = λ a. refl;
  body = λ a. refl;
  stored = λ a. refl;
  reach = λ a. refl;
  size =
      λ a. refl;
  lost = refl;
  alone = refl;
  gone = refl;
}

module _ (t : Tables) (e : Entry) (r : ℕ) (v : Representation) where
  hears_head : (x : ℕ) (response : Response) (z : Option Exchange) → t.exchange x ≡ z →
      HearsParts t e r v (representation_after_head t e r x response z v) (event.Head x response)
  hears_head x response None row = hears_none t e r v (event.Head x response)
  hears_head x response (Some w) row = elim (bool_cases (updates t e r w v)) [
    | inr off ↦ rw off (hears_none t e r v (event.Head x response))
    | inl up ↦
        let on : is_headed t e r v (event.Head x response) ≡ true = ap (updates_row t e r v) row ∙ up in
        rw up (record {
          key = refl;
          head = λ not_headed not_ended. absurd (false_true (sym not_headed ∙ on));
          writer = λ not_headed. absurd (false_true (sym not_headed ∙ on));
          body = λ a. refl;
          stored = λ a. refl;
          reach = λ a. refl;
          size = λ a. refl;
          lost = refl;
          alone = refl;
          gone = refl;
        })
  ]

  hears_piece : (x : ℕ) (bytes : List ℕ) (z : Option Exchange) → t.exchange x ≡ z →
      HearsParts t e r v (representation_after_piece e r x bytes z v) (event.Piece x bytes)
  hears_piece x bytes None row = hears_none t e r v (event.Piece x bytes)
  hears_piece x bytes (Some w) row = elim (bool_cases (family x w == r)) [
    | inr off ↦ rw off (hears_none t e r v (event.Piece x bytes))
    | inl of_r ↦
        let on : is_filled t r (event.Piece x bytes) ≡ true = ap (is_of_family r x) row ∙ of_r in
        rw of_r (record {
          key = refl;
          head = λ a b. refl;
          writer = λ a. refl;
          body = λ unfilled. absurd (false_true (sym unfilled ∙ on));
          stored = λ unfilled. absurd (false_true (sym unfilled ∙ on));
          reach = λ unfilled. absurd (false_true (sym unfilled ∙ on));
          size = λ unfilled. absurd (false_true (sym unfilled ∙ on));
          lost = refl;
          alone = refl;
          gone = refl;
        })
  ]

  hears_end : (x : ℕ) → HearsParts t e r v (if x == r then with_total_if_none (length_in (t.exchange x)) v else v) (event.End x)
  hears_end x = elim (bool_cases (x == r)) [
    | inr off ↦ rw off (hears_none t e r v (event.End x))
    | inl here ↦ rw here (record {
      key = refl;
      head = λ a not_ended. absurd (false_true (sym not_ended ∙ here));
      writer = λ a. refl;
      body = λ a. refl;
      stored = λ a. refl;
      reach = λ a. refl;
      size = λ a. refl;
      lost = refl;
      alone = refl;
      gone = refl;
    })
  ]

  hears : (ev : Event) → HearsParts t e r v (representation_heard t e r ev v) ev
  hears (event.Head x response) = hears_head x response (t.exchange x) refl
  hears (event.Piece x bytes) = hears_piece x bytes (t.exchange x) refl
  hears (event.End x) = hears_end x
  hears ev = hears_none t e r v ev

  acts_part : (u : Representation) → HearsParts t e r v u e.event → KeepsParts t e r v (representation_acted t e r v u)
  acts_part u h = grind (arith, nat_tests)

  row_after : (z : Option Representation) → z ≡ Some v →
      representation_after t e r z ≡ Some (representation_acted t e r v (representation_heard t e r e.event v))
  unfolding representation_after
  row_after None is = absurd (let never : None ≡ Some v = is in cc)
  row_after (Some u) is = ap (λ q. Some (representation_acted t e r q (representation_heard t e r e.event q))) (some_inj u v is)

pub parts_are_kept : PartsAreKept
parts_are_kept t e r v row =
    let u = representation_heard t e r e.event v in
    record { u = representation_acted t e r v u; row = row_after t e r v (t.representation r) row; parts = acts_part t e r v u (hears t e r v e.event) }

-- WHY IT GOES

module _ (t : Tables) (e : Entry) (r : ℕ) (v : Representation) where
  caused_key : (is_current t v.key r && (is_key (doomed_key_of t e) v.key || is_key (bypass_key e) v.key)) ≡ true → GoesBy t e r v
  caused_key h =
      let now : current t v.key ≡ Some r = number_is (current t v.key) r (and_left (is_current t v.key r) _ h) in
      elim (or_cases _ _ (and_right (is_current t v.key r) _ h)) [
        | inl doom ↦ frames.by_doom now (key_is (doomed_key_of t e) v.key doom)
        | inr past ↦ frames.by_bypass now (key_is (bypass_key e) v.key past)
      ]

  caused_row : (x : ℕ) (response : Response) (z : Option Exchange) → e.event ≡ event.Head x response → t.exchange x ≡ z →
      goes_by_exchange t e r z ≡ true → GoesBy t e r v
  caused_row x response None at row h = absurd (false_true h)
  caused_row x response (Some w) at row h = frames.by_head x response w at row h

  no_head : (ev : Event) (z : Option Exchange) → e.event ≡ ev → case_of t (has_loss e.acts) ev ≡ None → goes_by_exchange t e r z ≡ true → ⊥
  no_head ev None at none h = false_true h
  no_head ev (Some w) at none h = false_true (sym (ap (λ g. goes_by_case t e r g w) (ap (case_of t (has_loss e.acts)) at ∙ none)) ∙ h)

  caused_head : (ev : Event) → e.event ≡ ev → goes_by_exchange t e r (exchange_at t ev) ≡ true → GoesBy t e r v
  unfolding case_of
  caused_head (event.Head x response) at h = caused_row x response (t.exchange x) at refl h
  caused_head (event.Piece x bytes) at h = absurd (no_head (event.Piece x bytes) (t.exchange x) at refl h)
  caused_head (event.End x) at h = absurd (no_head (event.End x) (t.exchange x) at refl h)
  caused_head (event.Fault x) at h = absurd (no_head (event.Fault x) (t.exchange x) at refl h)
  caused_head _ at h = absurd (false_true h)

  caused_stop : (z : Option Exchange) → t.exchange r ≡ z → brings_whole v.head.status ≡ true → is_keepable v ≡ false → ends_founding e r z ≡ true →
      GoesBy t e r v
  caused_stop None row status off h = absurd (false_true h)
  caused_stop (Some w) row status off h = frames.by_stop w row (and_left w.is_open _ h) status off (and_right w.is_open _ h)

  caused_early : (ends_early t e r v && not (is_keepable v)) ≡ true → GoesBy t e r v
  caused_early h =
      let early : ends_early t e r v ≡ true = and_left (ends_early t e r v) _ h in
      caused_stop (t.exchange r) refl (and_left (brings_whole v.head.status) _ early) (not_keepable (is_keepable v) (and_right (ends_early t e r v) _ h))
      (and_right (brings_whole v.head.status) _ early)

  caused_itself : goes_itself t e r v ≡ true → GoesBy t e r v
  caused_itself h = elim (or_cases _ (ends_early t e r v && not (is_keepable v)) h) [
    | inr early ↦ caused_early early
    | inl rest ↦ elim (or_cases _ (misreads_in r e.acts) rest) [
      | inr misread ↦ frames.by_misread misread
      | inl more ↦ elim (or_cases _ (loses_in r e.acts) more) [
        | inr lost ↦ frames.by_loss lost
        | inl first ↦ elim (or_cases _ (goes_by_head t e r) first) [
          | inr head ↦ caused_head e.event refl head
          | inl key ↦ caused_key key
        ]
      ]
    ]
  ]

  caused : becomes_gone t e r v ≡ true → GoesBy t e r v
  unfolding becomes_gone
  caused h = elim (or_cases (goes_itself t e r v) (evicts_in r e.acts) h) [
    | inl itself ↦ caused_itself itself
    | inr room ↦ frames.by_eviction room
  ]

pub gone_is_caused : GoneIsCaused
gone_is_caused t e r v h = caused t e r v h

-- a piece makes nothing gone by itself
module _ (t : Tables) (now x : ℕ) (bytes : List ℕ) (r : ℕ) (v : Representation) where
  abbrev brings : Entry
  brings = entry_without_acts now (event.Piece x bytes)

-- A WHOLE ROW

number_of : (o : Option ℕ) (n : ℕ) → is_number o n ≡ false → o ≡ Some n → ⊥
number_of o n off is = false_true (sym off ∙ number_yes o n is)

module _ (t : Tables) (e : Entry) (r : ℕ) (silent : speaks_of t e r ≡ false) where
  parts_of : (is_event_of t e r e.event ≡ false) × (is_current_for t (doomed_key_of t e) r ≡ false) × (is_current_for t (bypass_key e) r ≡ false) ×
      (are_acts_of r e ≡ false)
  parts_of =
      let a = or_false _ (are_acts_of r e) silent in
      let b = or_false _ (is_current_for t (bypass_key e) r) a.0 in
      let c = or_false (is_event_of t e r e.event) (is_current_for t (doomed_key_of t e) r) b.0 in
      (c.0, c.1, b.1, a.1)

  acts_parts : (loses_in r e.acts ≡ false) × (misreads_in r e.acts ≡ false) × (evicts_in r e.acts ≡ false) × (closes_in r e.acts ≡ false)
  acts_parts =
      let a = or_false _ (closes_in r e.acts) parts_of.3 in
      let b = or_false _ (evicts_in r e.acts) a.0 in
      let c = or_false (loses_in r e.acts) (misreads_in r e.acts) b.0 in
      (c.0, c.1, b.1, a.1)

  -- a head updates what it is about
  about_updated : (g : Option HeadCase) (w : Exchange) → is_updating g ≡ true → is_number w.aim r ≡ true → answers_about t r g w ≡ true
  about_updated g w up aims = grind (arith, nat_tests)

  -- and what goes by it
  about_gone : (g : Option HeadCase) (w : Exchange) → goes_by_case t e r g w ≡ true → answers_about t r g w ≡ true
  about_gone (Some case.NotValidated) w h = h
  about_gone (Some case.FoundsWhole) w h = h
  about_gone (Some case.FoundsRange) w h = h
  about_gone (Some case.PassesBy) w h = h
  about_gone (Some case.FirstChanged) w h = h
  about_gone (Some case.FirstReplaced) w h = h
  about_gone (Some case.FirstPassesBy) w h = by_loss (is_number w.aim r) (has_loss e.acts) (is_current_of t w r) h
    where
      by_loss : (a b c : Bool) → (a || (b && c)) ≡ true → (a || c) ≡ true
      by_loss true b c h = refl
      by_loss false b c h = and_right b c h
  about_gone (Some case.LaterChanged) w h = and_left (is_number w.aim r) _ h
  about_gone _ w h = absurd (false_true h)

  head_stays : (v : Representation) (x : ℕ) (response : Response) (z : Option Exchange) → head_about t e r z ≡ false →
      representation_after_head t e r x response z v ≡ v
  head_stays v x response None off = refl
  head_stays v x response (Some w) off =
      let none : updates t e r w v ≡ false =
      not_so (updates t e r w v)
      (λ up. let both = and_left (is_updating (case_at t e) && is_number w.aim r) _ up in
      false_true (sym off ∙ about_updated (case_at t e) w (and_left (is_updating (case_at t e)) _ both) (and_right (is_updating (case_at t e)) _ both))) in
      rw none refl

  piece_stays : (v : Representation) (x : ℕ) (bytes : List ℕ) (z : Option Exchange) → is_of_family r x z ≡ false →
      representation_after_piece e r x bytes z v ≡ v
  piece_stays v x bytes None off = refl
  piece_stays v x bytes (Some w) off = rw off refl

  heard_stays : (v : Representation) (ev : Event) → is_event_of t e r ev ≡ false → representation_heard t e r ev v ≡ v
  heard_stays v (event.Head x response) off = head_stays v x response (t.exchange x) ((or_false (x == r) (head_about t e r (t.exchange x)) off).1)
  heard_stays v (event.Piece x bytes) off = piece_stays v x bytes (t.exchange x) off
  heard_stays v (event.End x) off = rw off refl
  heard_stays v _ off = refl

  about_row : (x : ℕ) (response : Response) (w : Exchange) → e.event ≡ event.Head x response → t.exchange x ≡ Some w → answers_about t r (case_at t e) w ≡ false
  about_row x response w at row = grind (arith, nat_tests)

  current_off : (o : Option (List ℕ)) (key : List ℕ) → is_current_for t o r ≡ false → o ≡ Some key → current t key ≡ Some r → ⊥
  current_off o key off is now = number_of (current t key) r (sym (ap (λ z. is_current_for t z r) is) ∙ off) now

  -- what founded it stops early only by its own event
  stop_of : (w : Exchange) (ev : Event) → is_event_of t e r ev ≡ false → stops_early w r ev ≡ false
  stop_of w ev off = grind (arith, nat_tests)

  not_gone : (v : Representation) → GoesBy t e r v → ⊥
  not_gone v (frames.by_doom now is) = current_off (doomed_key_of t e) v.key parts_of.1 is now
  not_gone v (frames.by_bypass now is) = current_off (bypass_key e) v.key parts_of.2 is now
  not_gone v (frames.by_head x response w at row h) = false_true (sym (about_row x response w at row) ∙ about_gone (case_at t e) w h)
  not_gone v (frames.by_loss h) = false_true (sym acts_parts.0 ∙ h)
  not_gone v (frames.by_misread h) = false_true (sym acts_parts.1 ∙ h)
  not_gone v (frames.by_stop w row on status off h) = elim (or_cases (stops_early w r e.event) (closes_in r e.acts) h) [
    | inl stop ↦ false_true (sym (stop_of w e.event parts_of.0) ∙ stop)
    | inr close ↦ false_true (sym acts_parts.3 ∙ close)
  ]
  not_gone v (frames.by_eviction h) = false_true (sym acts_parts.2 ∙ h)

  stays_on : (v : Representation) → becomes_gone t e r v ≡ false
  stays_on v = not_so (becomes_gone t e r v) (λ h. not_gone v (gone_is_caused t e r v h))

  acted_stays : (v : Representation) → representation_acted t e r v v ≡ v
  acted_stays v = rw (acts_parts.0, stays_on v) refl

  -- nor is it founded
  unfounded : (ev : Event) → is_event_of t e r ev ≡ false → founded_at t e r ev ≡ None
  unfounded ev off = grind (arith, nat_tests)

  row_stays : (z : Option Representation) → representation_after t e r z ≡ z
  unfolding representation_after
  row_stays None = unfounded e.event parts_of.0
  row_stays (Some v) = ap Some (ap (representation_acted t e r v) (heard_stays v e.event parts_of.0) ∙ acted_stays v)

-- WHEN NOTHING IS SAID OF IT

abbrev pub may_doom : Event → Bool
may_doom (event.Head x response) = true
may_doom (event.Doom key) = true
may_doom _ = false

pub undoomed : (t : Tables) (e : Entry) → may_doom e.event ≡ false → doomed_key_of t e ≡ None
unfolding doomed_key_of
undoomed t e off = grind (arith, nat_tests)

pub others_stay : OthersStay
others_stay t e r silent = row_stays t e r silent (t.representation r)

pub others_dont_go : OthersDontGo
others_dont_go t e r v silent = stays_on t e r silent v

-- EXCHANGES

module _ (t : Tables) (e : Entry) (x : ℕ) (silent : speaks_of_exchange e x ≡ false) where
  exchange_parts : (is_number (exchange_in e.event) x ≡ false) × (asks_in x e.acts ≡ false) × (closes_in x e.acts ≡ false) ×
      (is_opened x (opening_in e.acts) ≡ false)
  exchange_parts = grind (arith, nat_tests)

  heard_same : (w : Exchange) (ev : Event) → is_number (exchange_in ev) x ≡ false → exchange_heard t e x ev w ≡ w
  heard_same w ev off = grind (arith, nat_tests)

  unmade : (z : Option Opening) → is_opened x z ≡ false → exchange_made t e x z ≡ None
  unmade None off = refl
  unmade (Some o) off = rw off refl

  exchange_same : (z : Option Exchange) → exchange_after t e x z ≡ z
  unfolding exchange_after
  exchange_same None = unmade (opening_in e.acts) exchange_parts.3
  exchange_same (Some w) = ap Some (ap (exchange_acted x e.acts) (heard_same w e.event exchange_parts.0) ∙ rw (exchange_parts.1, exchange_parts.2) refl)

pub exchanges_stay : ExchangesStay
exchanges_stay t e x silent = exchange_same t e x silent (t.exchange x)
