-- Who isn't spoken to stands where it stood, and what is current stays so.
-- The event is not for the consumer, so it hears nothing; the acts say nothing to it, so it stays, or starts over.
-- Why it starts over: its key is doomed while it waits, or the representation that let it through goes.
-- What it reads is not lost and its source does not stop, so nothing becomes due to it either.
-- What is current stays so: what is usable afterwards was usable before, or was founded for another key.
use Rattle.std.{proofs.{Common.{◌≡◌, inl, inr, ℕ, ◌+◌, List, [], ◌∷◌, ◌++◌, length, Bool, true, false, Option, Some, None, refl, ap, sym, ◌∙◌, arith}, lemmas.Bool.Decides.{nat_tests}}, specs.{Prelude.{find, filter, bytes_eq, is_some, nat_eq, ◌||◌, ◌&&◌, not, if◌then◌else◌}, Option.{option_or}}}
use Rattle.hc_effects.proofs.Vocabulary.{Opening, opening_in, leaves_in, shows_in, given_in, Act, Event, Limits, is_same_number, Place, Showing, showing_in, accepted_acts, answer_acts, loss_acts, close_acts, is_asked, case_at, case_of, closing, consumer_heard, by_opening, waiting, shown_place, own_after, left_to, consumer_acted, consumer_made, consumer_after, back_in_line, current, is_usable, denial, Entry, doomed_key_of, is_key, exchange_in, exchange_at, is_for, Flaw, is_event_for, beside, StartsOverBy, becomes_due, cause_of_loss, cause_by_loss, cause_of_head, becomes_gone, goes_in, bound, is_bound, reads, source, founded_at, new_representation, representation_after, Tables, Representation, Consumer, Sound, Among, starts_over, sends_back, loses_what_it_waits_for, after_accepted, founds, with_item_first, starts_after, evicted}
use Rattle.hc_event.specs.declared.event.Event.TheVariants as event
use Rattle.hc_text.proofs.Basics.{and_left, and_right, bool_cases, not_some as none_some, or_cases, plus_none, some_inj}
use Rattle.hc_rules.proofs.RangeReads.{bytes_eq-same}
use Rattle.hc_event.specs.declared.place.Place.TheVariants as place
use Rattle.hc_model.specs.Frames.{IsEntry, StandersStay, StartingOverIsCaused, loses_row, loses_reading, is_hit, ReadersStay, goes_back, has_passed_in, OthersStandStill, BoundStay, FoundsOther, unless_gone, CurrentStays, FoundedIsCurrent}
use Rattle.hc_model.specs.Frames as frames
use Rattle.hc_effects.proofs.{ActParts.{IsAnswer, IsFarFrom, answer_is, said_is, far_evicted, far_loss, far_closed, far_said, far_closing, far_lost_only}, Basics.{same_functions, false_true, or_false, some_row}, CurrentKeeps.{WasOrFounded, was_or_founded, current_is, usable, usable_row, find_only}, Frames.{parts_are_kept}, KeyNames.{current_key, key_is}, NamesKeep.{current_there}, NumbersKeep.{starts_later}}
use Rattle.hc_effects.proofs.ActParts as parts
use Rattle.hc_effects.proofs.CurrentKeeps as currents

-- CONSUMERS

-- the acts of an entry say nothing to a consumer whom its event doesn't poll
module _ (limits : Limits) (t : Tables) (now : ℕ) (ev : Event) (flaw : Flaw) (c : ℕ) (apart : (d want : ℕ) → ev ≡ event.Poll d want → nat_eq d c ≡ false) where
  abbrev closings : List ℕ
  closings = closing t (record { now = now; event = ev; acts = answer_acts t now ev flaw ++ loss_acts flaw })

  far_reported : IsFarFrom c (loss_acts flaw ++ close_acts t now ev flaw)
  far_reported = far_loss c flaw _ (far_closed c closings)

  far_asked : IsFarFrom c (answer_acts t now ev flaw ++ (close_acts t now ev flaw ++ loss_acts flaw))
  far_asked = far_said c t now ev flaw (answer_acts t now ev flaw) _ apart (said_is t now ev flaw) (far_closing c closings _ (far_lost_only c flaw))

  far_answer : (acts : List Act) → IsAnswer limits t now ev flaw acts → IsFarFrom c acts
  far_answer _ (parts.reported silent) = far_evicted c (evicted limits t now ev) _ far_reported
  far_answer _ parts.asked = far_asked

  far_if : (b : Bool) → IsFarFrom c (if b then answer_acts t now ev flaw ++ (close_acts t now ev flaw ++ loss_acts flaw) else loss_acts flaw ++
      close_acts t now ev flaw)
  far_if true = far_asked
  far_if false = far_reported

  pub far_by : (e : Entry) → IsEntry limits t now ev flaw e → IsFarFrom c e.acts
  far_by _ frames.whole = far_answer (accepted_acts limits t now ev flaw) (answer_is limits t now ev flaw)
  far_by _ frames.unevicting = far_if (is_asked ev)

module _ (t : Tables) (e : Entry) (c : ℕ) (k : Consumer) (far : IsFarFrom c e.acts) where
  opened : (z : Option Opening) (q : Consumer) → opening_in e.acts ≡ z → by_opening t c z q ≡ q
  opened None q is = refl
  opened (Some o) q is = rw (far.opens o is) refl

  shown : (z : Option Showing) (p : Place) → showing_in e.acts ≡ z → shown_place c z p ≡ p
  shown None p is = refl
  shown (Some s) p is = rw (far.showing s is) refl

  -- what the acts make of it
  abbrev out : Consumer → Consumer
  out q = record q {
    place = if leaves_in c e.acts then place.Over else shown_place c (showing_in e.acts) q.place;
    own = own_after t e c k.place q.own;
    shown = shows_in c e.acts || q.shown;
    given = q.given + length (given_in c e.acts);
  }

  waited : waiting t e c k ≡ k
  waited = rw far.waits refl

  came_out : out k ≡ record k { own = own_after t e c k.place k.own }
  came_out = rw (far.leaves, far.shows, far.given, shown (showing_in e.acts) k.place refl, plus_none k.given) refl

  pub acted : consumer_acted t e c k ≡ record k { own = own_after t e c k.place k.own }
  acted = ap out (opened (opening_in e.acts) (waiting t e c k) refl ∙ waited) ∙ came_out

  -- who hears nothing
  pub after_heard : consumer_heard t e c e.event k ≡ k → (z : Option Consumer) → z ≡ Some k →
      consumer_after t e c z ≡ Some (if starts_over t e c k then back_in_line e.now k else beside t e c k)
  unfolding consumer_after
  after_heard quiet z is = grind (arith, nat_tests)

  module _ (off : is_event_for t c e.event ≡ false) where
    heard : (z : Event) → is_event_for t c z ≡ false → consumer_heard t e c z k ≡ k
    heard z other = grind (arith, nat_tests)

    after_row : (z : Option Consumer) → z ≡ Some k → consumer_after t e c z ≡ Some (if starts_over t e c k then back_in_line e.now k else beside t e c k)
    after_row = after_heard (heard e.event off)

standing : (limits : Limits) (t : Tables) (now : ℕ) (ev : Event) (flaw : Flaw) (e : Entry) → IsEntry limits t now ev flaw e → (e.now ≡ now) × (e.event ≡ ev)
standing limits t now ev flaw _ frames.whole = (refl, refl)
standing limits t now ev flaw _ frames.unevicting = (refl, refl)

pub standers_stay : StandersStay
standers_stay limits t now ev flaw e is c k row off =
    let same = standing limits t now ev flaw e is in
    after_row t e c k (far_by limits t now ev flaw c (λ d want at. sym (ap (is_event_for t c) at) ∙ off) e is) (ap (is_event_for t c) same.1 ∙ off)
    (t.consumer c) row
    ∙ ap (λ moment. Some (if starts_over t e c k then back_in_line moment k else beside t e c k)) same.0

-- WHY IT STARTS OVER

module _ (t : Tables) (e : Entry) (c : ℕ) (k : Consumer) (off : is_event_for t c e.event ≡ false) where
  not_sent : (z : Event) → e.event ≡ z → is_for (exchange_at t z) c ≡ true → sends_back (case_at t e) ≡ true → ⊥
  unfolding case_of
  not_sent z at mine sent = grind (arith, nat_tests)

  lost_by : (p : Place) → k.place ≡ p → loses_what_it_waits_for t e c p ≡ true → StartsOverBy t e k
  lost_by (place.Passed r kept) at h = frames.by_going r kept at (and_left (goes_in t e r (t.representation r)) _ h)
  lost_by _ at h = absurd (false_true h)

  over_by : starts_over t e c k ≡ true → StartsOverBy t e k
  unfolding starts_over
  over_by h = elim (or_cases _ (loses_what_it_waits_for t e c k.place) h) [
    | inr loses ↦ lost_by k.place refl loses
    | inl first ↦ elim (or_cases _ (sends_back (case_at t e) && is_for (exchange_at t e.event) c) first) [
      | inl doom ↦ frames.by_doom (key_is (doomed_key_of t e) k.request.key (and_left (is_key (doomed_key_of t e) k.request.key) _ doom))
          (and_right (is_key (doomed_key_of t e) k.request.key) _ doom)
      | inr sent ↦ absurd (not_sent e.event refl (and_right (sends_back (case_at t e)) _ sent) (and_left (sends_back (case_at t e)) _ sent))
    ]
  ]

pub starting_over_is_caused : StartingOverIsCaused
starting_over_is_caused t e c k off h = over_by t e c k off h

-- WHAT BECOMES DUE TO IT

module _ (t : Tables) (e : Entry) (c : ℕ) (k : Consumer) (o : reads k.place ≡ false → k.due ≡ None) (off : is_event_for t c e.event ≡ false)
    (spared : is_hit t e k ≡ false) where
  unlost_row : (r : ℕ) (z : Option Representation) → loses_row t e r z ≡ false → (cause_by_loss t e c r z ≡ None) × (left_to t e c r z k.own ≡ k.own)
  unlost_row r None quiet = (refl, refl)
  unlost_row r (Some v) quiet = (rw quiet refl, rw quiet refl)

  unlost : (p : Place) → loses_reading t e p ≡ false → (cause_of_loss t e c p ≡ None) × (own_after t e c p k.own ≡ k.own)
  unlost (place.Bound r lo hi how) quiet = unlost_row r (t.representation r) quiet
  unlost _ quiet = (refl, refl)

  head_none : (z : Event) → is_event_for t c z ≡ false → cause_of_head t e c z ≡ None
  head_none (event.Head x response) other = rw other refl
  head_none _ other = refl

  none_due : becomes_due t e c k ≡ None
  unfolding becomes_due
  none_due =
      let parts = or_false (is_same_number (source t k) (exchange_in e.event)) (loses_reading t e k.place) spared in
      rw (parts.0, (unlost k.place parts.1).0, head_none e.event off) refl

  due_same : (b : Bool) → reads k.place ≡ b → (if b then option_or k.due None else None) ≡ k.due
  due_same b is = grind (arith, nat_tests)

  beside_same : beside t e c k ≡ k
  beside_same =
      let parts = or_false (is_same_number (source t k) (exchange_in e.event)) (loses_reading t e k.place) spared in
      rw (none_due, (unlost k.place parts.1).1) (ap (λ due. record k { due = due }) (due_same (reads k.place) refl))

pub readers_stay : ReadersStay
readers_stay limits t now ev flaw e is o c k row off stays spared =
    let same = standing limits t now ev flaw e is in
    standers_stay limits t now ev flaw e is c k row off ∙
    ap Some (ap (λ b. if b then back_in_line now k else beside t e c k) stays ∙
    beside_same t e c k (o.idle_due c k row) (ap (is_event_for t c) same.1 ∙ off) spared)

-- WHERE IT STANDS

module _ (limits : Limits) (t : Tables) (now : ℕ) (ev : Event) (flaw : Flaw) (e : Entry) (is : IsEntry limits t now ev flaw e) (c : ℕ)
    (off : is_event_for t c ev ≡ false) where
  -- who wasn't there isn't yet
  unmade : (z : Event) → is_event_for t c z ≡ false → consumer_made c e.now z ≡ None
  unmade (event.Start d request) other = rw other refl
  unmade _ other = refl

  none_after : (z : Option Consumer) → z ≡ None → consumer_after t e c z ≡ None
  unfolding consumer_after
  none_after None none = unmade e.event (ap (is_event_for t c) (standing limits t now ev flaw e is).1 ∙ off)
  none_after (Some k) none = absurd (let no : Some k ≡ None = none in cc)

  stood : (f : Option Consumer → Bool) (z : Option Consumer) → t.consumer c ≡ z → f None ≡ false →
      ((k : Consumer) → f (Some (back_in_line now k)) ≡ false) → ((k : Consumer) → f (Some (beside t e c k)) ≡ f (Some k)) →
      f ((after_accepted t e).consumer c) ≡ (f z && not (goes_back t e c z))
  stood f None row none back same = ap f (none_after (t.consumer c) row) ∙ (none ∙ sym (ap (λ b. b && not false) none))
  stood f (Some k) row none back same = ap f (standers_stay limits t now ev flaw e is c k row off) ∙ by_test (starts_over t e c k)
    where
      and_yes : (b : Bool) → b ≡ (b && not false)
      and_yes true = refl
      and_yes false = refl

      and_no : (b : Bool) → false ≡ (b && not true)
      and_no true = refl
      and_no false = refl

      by_test : (b : Bool) → f (Some (if b then back_in_line now k else beside t e c k)) ≡ (f (Some k) && not b)
      by_test true = back k ∙ and_no (f (Some k))
      by_test false = same k ∙ and_yes (f (Some k))

pub others_stand_still : OthersStandStill
others_stand_still limits t now ev flaw e is c off = record {
  bound_is = λ r. stood limits t now ev flaw e is c off (is_bound r) (t.consumer c) refl refl (λ k. refl) (λ k. refl);
  passed_is = λ r. stood limits t now ev flaw e is c off (has_passed_in r) (t.consumer c) refl refl (λ k. refl) (λ k. refl);
}

pub bound_stay : BoundStay
unfolding bound
bound_stay t e s goes r same = ap (λ test. filter test (starts_after e.event t.starts)) (same_functions _ _ same) ∙ by_event e.event goes
  where
    by_event : (z : Event) → denial t z ≡ None →
        filter (λ c. is_bound r (t.consumer c)) (starts_after z t.starts) ≡ filter (λ c. is_bound r (t.consumer c)) t.starts
    by_event (event.Start c request) taken =
        let none : t.consumer c ≡ None = s.numbered.lists.new_consumers c (starts_later t c request taken) in
        let off : is_bound r (t.consumer c) ≡ false = ap (is_bound r) none in
        rw off refl
    by_event _ taken = refl

-- WHAT IS CURRENT

find_none : (test : ℕ → Bool) (ns : List ℕ) → ((n : ℕ) → test n ≡ true → ⊥) → find test ns ≡ None
find_none test [] none = refl
find_none test (n ∷ ns) none = elim (bool_cases (test n)) [
  | inl passes ↦ absurd (none n passes)
  | inr fails ↦ rw fails (find_none test ns none)
]

module _ (t : Tables) (e : Entry) (s : Sound t) (key : List ℕ) (other : FoundsOther t e key) where
  abbrev u : Tables
  u = after_accepted t e

  -- what is usable after it was current, and doesn't go
  record Stayed (n : ℕ) : Type 0 where
    now_is : current t key ≡ Some n
    stays : goes_in t e n (t.representation n) ≡ false

  stayed_by : (n : ℕ) (p : Representation) → p.key ≡ key → p.is_gone ≡ false → WasOrFounded t e n p → Stayed n
  stayed_by n p of_key fresh (currents.was v row key_is gone_is) =
      let off = or_false (becomes_gone t e n v) v.is_gone (sym gone_is ∙ fresh) in
      record { now_is = current_is t key n v s row (sym key_is ∙ of_key) off.1; stays = ap (goes_in t e n) row ∙ off.0 }
  stayed_by n p of_key fresh (currents.founded x response w at here is row key_is none) =
      let founds_it : founds t e ≡ Some n = rw is (ap exchange_in at ∙ ap Some here) in
      absurd (other n w founds_it (ap t.exchange (sym here) ∙ row) (sym key_is ∙ of_key))

  stayed : (n : ℕ) → is_usable key (u.representation n) ≡ true → Stayed n
  stayed n passes =
      let p = usable_row u key n (u.representation n) refl passes in
      stayed_by n p.v p.of_key p.fresh (was_or_founded t e n (t.representation n) p.v refl p.row)

  usable_after : (r : ℕ) (v : Representation) → v.key ≡ key → v.is_gone ≡ false → t.representation r ≡ Some v → becomes_gone t e r v ≡ false →
      is_usable key (u.representation r) ≡ true
  usable_after r v of_key fresh row stays =
      let kept = parts_are_kept t e r v row in
      let fresh_now : kept.u.is_gone ≡ false = kept.parts.gone ∙ rw (stays, fresh) refl in
      usable key (u.representation r) kept.u kept.row (kept.parts.key ∙ of_key) fresh_now

  among_after : (r : ℕ) (z : Option ℕ) → Among r t.founded → Among r (with_item_first z t.founded)
  among_after r None among = among
  among_after r (Some x) among = inr among

  current_by : (o : Option ℕ) → current t key ≡ o → current u key ≡ unless_gone t e o
  unfolding current
  current_by None is = find_none (λ n. is_usable key (u.representation n)) u.founded (λ n passes. none_some n (sym is ∙ (stayed n passes).now_is))
  current_by (Some r) is = elim (bool_cases (goes_in t e r (t.representation r))) [
    | inl gone ↦ rw gone (find_none (λ n. is_usable key (u.representation n)) u.founded (λ n passes.
        let was = stayed n passes in
        let same : r ≡ n = some_inj r n (sym is ∙ was.now_is) in
        false_true (sym was.stays ∙ (ap (λ q. goes_in t e q (t.representation q)) (sym same) ∙ gone))))
    | inr stays ↦
        let there = some_row (t.representation r) (current_there t key r is) in
        let v = there.0 in
        let fresh = Rattle.hc_effects.proofs.PollKeeps.current_stays t key r v is there.1 in
        let off : becomes_gone t e r v ≡ false = sym (ap (goes_in t e r) there.1) ∙ stays in
        rw stays (find_only (λ n. is_usable key (u.representation n)) u.founded r
        (among_after r (founds t e) (s.numbered.lists.founded r (ap is_some there.1)))
        (usable_after r v (current_key t key r v is there.1) fresh there.1 off) (λ n passes. sym (some_inj r n (sym is ∙ (stayed n passes).now_is))))
  ]

pub current_stays : CurrentStays
current_stays t e s key other = current_by t e s key other (current t key) refl

pub founded_is_current : FoundedIsCurrent
unfolding current representation_after
founded_is_current t e x response w at row none on =
    let self : nat_eq x x ≡ true = grind (arith, nat_tests) in
    let founds_it : founds t e ≡ Some x = rw on (ap exchange_in at) in
    let made : founded_at t e x (event.Head x response) ≡ Some (new_representation x e response w) = rw (on, self, row) refl in
    let row_is : representation_after t e x (t.representation x) ≡ Some (new_representation x e response w) = ap (representation_after t e x) none ∙
    (ap (founded_at t e x) at ∙ made) in
    let passes : is_usable w.request.key (representation_after t e x (t.representation x)) ≡ true = ap (is_usable w.request.key) row_is ∙
    by_key (bytes_eq w.request.key w.request.key) (bytes_eq-same w.request.key w.request.key refl) in
    ap (λ z. find (λ n. is_usable w.request.key (representation_after t e n (t.representation n))) (with_item_first z t.founded)) founds_it ∙ rw passes refl
  where
    by_key : (b : Bool) → b ≡ true → (b && not false) ≡ true
    by_key true is = refl
    by_key false is = absurd (false_true is)
