-- Each row has a number that was given out, and stands in its list.
--
-- What is opened has the next number (`opens_next`), and who starts a number above the last (`starts_later`). So a
-- number above all has no row after an entry (`above`, `exchange_none`), and a new row is put into its list
-- (`opening_among`, `consumer_among`). A representation is founded under the number of an exchange that was opened
-- (`founded_none`, `founded_among`). `numbers_are_kept` joins the three kinds.
use Rattle.std.{proofs.{Common.{◌≡◌, inl, inr, ℕ, ◌+◌, ◌<◌, List, Bool, true, false, Option, Some, None, refl, ap, sym, ◌∙◌, arith}, lemmas.Bool.Decides.{nat_tests}}, specs.Prelude.{◌&&◌, nat_eq, is_some, if◌then◌else◌, option_map}}
use Rattle.hc_effects.proofs.Vocabulary.{Opening, opening_in, Event, Request, Limits, accepted_acts, case_at, is_founding, consumer_after, consumer_made, denial, is_live, Entry, exchange_after, exchange_made, exchange_in, Flaw, representation_after, founded_at, new_representation, Tables, Exchange, Representation, Consumer, Sound, Among, IsListed, last_start_after, starts_after, opened_after, openings_after, founds, with_item_first}
use Rattle.hc_event.specs.declared.event.Event.TheVariants as event
use Rattle.hc_rules.specs.Refusals as refusals
use Rattle.hc_model.specs.Laws.{NumbersAreKept}
use Rattle.hc_effects.proofs.{EventsKeep.{reported, cancels, poll_live}, PieceKeeps.{eq_cases}, PollKeeps.{poll_opens_next}}

-- WHAT IS OPENED HAS THE NEXT NUMBER

never_opens : {A : Type 0} (o : Option A) (a : A) → o ≡ None → o ≡ Some a → ⊥
never_opens o a none is = let no : None ≡ Some a = sym none ∙ is in cc

module _ (limits : Limits) (t : Tables) (now : ℕ) (flaw : Flaw) (s : Sound t) where
  by_poll : (c want : ℕ) (k : Option Consumer) (o : Opening) → t.consumer c ≡ k → is_live k ≡ true → opening_in
      (accepted_acts limits t now (event.Poll c want) flaw) ≡ Some o → o.x ≡ t.opened + 1
  by_poll c want None o row live is = absurd (let no : false ≡ true = live in cc)
  by_poll c want (Some k) o row live is = poll_opens_next limits t now c want k s row flaw o is

  pub opens_next : (event : Event) (o : Opening) → denial t event ≡ None → opening_in (accepted_acts limits t now event flaw) ≡ Some o → o.x ≡ t.opened + 1
  unfolding refusals.refusal_of
  opens_next (event.Poll c want) o h is = by_poll c want (t.consumer c) o refl (poll_live limits t now flaw s c want h) is
  opens_next (event.Cancel c) o h is = absurd (never_opens _ o (cancels limits t now flaw s c) is)
  opens_next ev o h is = absurd (never_opens _ o (reported limits t now flaw s ev) is)

-- CONSUMERS

pub starts_later : (t : Tables) (c : ℕ) (request : Request) → denial t (event.Start c request) ≡ None → t.last_start < c
unfolding refusals.refusal_of
starts_later t c request h = grind (arith, nat_tests)

-- a number above the last start was above it before, and isn't the one that starts
record IsAbove (t : Tables) (event : Event) (now c : ℕ) : Type 0 where
  before : t.last_start < c
  none : consumer_made c now event ≡ None

above : (t : Tables) (now c : ℕ) (event : Event) → denial t event ≡ None → last_start_after event t.last_start < c → IsAbove t event now c
above t now c (event.Start d request) h lt =
    let later : t.last_start < d = starts_later t d request h in
    let under : d < c = lt in
    let other : nat_eq d c ≡ false = grind (arith, nat_tests) in
    record { before = omega arith; none = rw other refl }
above t now c _ h lt = record { before = lt; none = refl }

consumer_none : (t : Tables) (e : Entry) (c : ℕ) (o : Option Consumer) → o ≡ None → consumer_made c e.now e.event ≡ None → consumer_after t e c o ≡ None
unfolding consumer_after
consumer_none t e c o is none = grind (arith, nat_tests)

made_among : (c now : ℕ) (event : Event) (cs : List ℕ) → is_some (consumer_made c now event) ≡ true → Among c (starts_after event cs)
made_among c now event cs some = grind (arith, nat_tests)

still_among : (c : ℕ) (event : Event) (cs : List ℕ) → Among c cs → Among c (starts_after event cs)
still_among c (event.Start d request) cs there = inr there
still_among c _ cs there = there

consumer_among : (t : Tables) (e : Entry) (c : ℕ) (o : Option Consumer) → t.consumer c ≡ o → IsListed t → is_some (consumer_after t e c o) ≡ true →
    Among c (starts_after e.event t.starts)
unfolding consumer_after
consumer_among t e c None row l some = made_among c e.now e.event t.starts some
consumer_among t e c (Some k) row l some = still_among c e.event t.starts (l.started c (ap is_some row))

-- EXCHANGES

made_other : (t : Tables) (e : Entry) (x : ℕ) (o : Option Opening) → opening_in e.acts ≡ o →
    ((p : Opening) → opening_in e.acts ≡ Some p → p.x ≡ t.opened + 1) → opened_after o t.opened < x → exchange_made t e x o ≡ None
made_other t e x o is next lt = grind (arith, nat_tests)

opened_before : (t : Tables) (n x : ℕ) (o : Option Opening) → ((p : Opening) → o ≡ Some p → p.x ≡ t.opened + 1) → opened_after o t.opened < x → t.opened < x
opened_before t n x None next lt = lt
opened_before t n x (Some o) next lt = let number : o.x ≡ t.opened + 1 = next o refl in let under : o.x < x = lt in omega arith

exchange_none : (t : Tables) (e : Entry) (x : ℕ) (o : Option Exchange) → o ≡ None → exchange_made t e x (opening_in e.acts) ≡ None →
    exchange_after t e x o ≡ None
unfolding exchange_after
exchange_none t e x o is none = grind (arith, nat_tests)

opening_among : (t : Tables) (e : Entry) (x : ℕ) (xs : List ℕ) (o : Option Opening) → is_some (exchange_made t e x o) ≡ true → Among x (openings_after o xs)
opening_among t e x xs o some = grind (arith, nat_tests)

still_opened : (x : ℕ) (xs : List ℕ) (o : Option Opening) → Among x xs → Among x (openings_after o xs)
still_opened x xs None there = there
still_opened x xs (Some o) there = inr there

exchange_among : (t : Tables) (e : Entry) (x : ℕ) (o : Option Exchange) → t.exchange x ≡ o → IsListed t → is_some (exchange_after t e x o) ≡ true →
    Among x (openings_after (opening_in e.acts) t.openings)
unfolding exchange_after
exchange_among t e x None row l some = opening_among t e x t.openings (opening_in e.acts) some
exchange_among t e x (Some w) row l some = still_opened x t.openings (opening_in e.acts) (l.opened x (ap is_some row))

-- REPRESENTATIONS

pub founded_none : (t : Tables) (e : Entry) (r : ℕ) (event : Event) → IsListed t → t.opened < r → founded_at t e r event ≡ None
founded_none t e r (event.Head x response) l lt = elim (eq_cases x r) [
  | inl here ↦ by_row _ (t.exchange x) (ap t.exchange here.1 ∙ l.new_exchanges r lt)
  | inr other ↦ rw other.0 (by_test (is_founding (case_at t e)))
]
  where
    by_row : (b : Bool) (o : Option Exchange) → o ≡ None → (if b then option_map (new_representation r e response) o else None) ≡ None
    by_row b o is = grind (arith, nat_tests)

    by_test : (b : Bool) → (if b && false then option_map (new_representation r e response) (t.exchange x) else None) ≡ None
    by_test b = grind (arith, nat_tests)
founded_none t e r _ l lt = refl

pub representation_none : (t : Tables) (e : Entry) (r : ℕ) (o : Option Representation) → o ≡ None → founded_at t e r e.event ≡ None →
    representation_after t e r o ≡ None
unfolding representation_after
representation_none t e r o is none = grind (arith, nat_tests)

still_founded : (r : ℕ) (rs : List ℕ) (o : Option ℕ) → Among r rs → Among r (with_item_first o rs)
still_founded r rs None there = there
still_founded r rs (Some q) there = inr there

founded_among : (t : Tables) (e : Entry) (r : ℕ) (rs : List ℕ) (event : Event) → is_some (founded_at t e r event) ≡ true →
    Among r (with_item_first (if is_founding (case_at t e) then exchange_in event else None) rs)
founded_among t e r rs (event.Head x response) some = elim (eq_cases x r) [
  | inr other ↦ absurd (none_by (is_founding (case_at t e)) (rw other.0 at some))
  | inl here ↦ by_case (is_founding (case_at t e)) refl
]
  where
    none_by : (b : Bool) → is_some (if b && false then option_map (new_representation r e response) (t.exchange x) else None) ≡ true → ⊥
    none_by true h = let no : false ≡ true = h in cc
    none_by false h = let no : false ≡ true = h in cc

    by_case : (b : Bool) → is_founding (case_at t e) ≡ b → Among r (with_item_first (if is_founding (case_at t e) then Some x else None) rs)
    by_case b is = grind (arith, nat_tests)
founded_among t e r rs _ some = absurd (let no : false ≡ true = some in cc)

representation_among : (t : Tables) (e : Entry) (r : ℕ) (o : Option Representation) → t.representation r ≡ o → IsListed t →
    is_some (representation_after t e r o) ≡ true → Among r (with_item_first (founds t e) t.founded)
unfolding representation_after
representation_among t e r None row l some = founded_among t e r t.founded e.event some
representation_among t e r (Some v) row l some = still_founded r t.founded (founds t e) (l.founded r (ap is_some row))

-- ALL OF IT

pub numbers_are_kept : NumbersAreKept
numbers_are_kept limits t now flaw s event h =
    let e : Entry = record { now = now; event = event; acts = accepted_acts limits t now event flaw } in
    let l = s.numbered.lists in
    let next : (p : Opening) → opening_in e.acts ≡ Some p → p.x ≡ t.opened + 1 = λ p is. opens_next limits t now flaw s event p h is in
    record {
      new_consumers = λ c lt. let a = above t now c event h lt in consumer_none t e c (t.consumer c) (l.new_consumers c a.before) a.none;
      new_exchanges = λ x lt. exchange_none t e x (t.exchange x) (l.new_exchanges x (opened_before t 0 x (opening_in e.acts) next lt))
          (made_other t e x (opening_in e.acts) refl next lt);
      new_representations = λ r lt.
          let under = opened_before t 0 r (opening_in e.acts) next lt in
          representation_none t e r (t.representation r) (l.new_representations r under) (founded_none t e r event l under);
      started = λ c some. consumer_among t e c (t.consumer c) refl l some;
      opened = λ x some. exchange_among t e x (t.exchange x) refl l some;
      founded = λ r some. representation_among t e r (t.representation r) refl l some;
    }
