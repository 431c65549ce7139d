-- The columns of exchanges are filters of the list of entries.
--
-- Openings, heads, bodies and ends each go by induction over a run, in one way: what a new row has, what an event adds
-- to a row that is there, and that events of an exchange without a row are denied. Heads have more work: an exchange
-- that has one gets no other (`heard_answered`). The results are `openings_are`, `heads_are`, `bodies_are` and
-- `ends_are`; the law of columns joins them.
use Rattle.std.{proofs.{Common.{◌≡◌, inl, inr, ℕ, List, [], ◌∷◌, ◌++◌, length, Bool, true, false, cond, Option, Some, None, refl, ap, sym, ◌∙◌, arith}, lemmas.{List.{append-nil}, Bool.Decides.{nat_tests}}}, specs.{Prelude.{if◌then◌else◌, ◌==◌, ◌||◌, ◌&&◌, not, option_map, option_and_then, is_some}, Option.{option_map_or, option_or}}}
use Rattle.hc_text.proofs.Basics.{bool_cases, or_false, or_none}
use Rattle.hc_effects.proofs.Vocabulary.{Opening, opening_in, is_denied, Event, Response, Limits, head_refusal, denial, as_open, Entry, History, Contents, promised_bytes, exchange_after, exchange_heard, exchange_made, Tables, Exchange, IsRun, IsOwed, tables, after, each, first, if_accepted, opening_of, opened_in, event}
use Rattle.hc_rules.specs.Refusals as refusals
use Rattle.hc_model.specs.Histories.{Answered, opening_at, head_in, head_of, bytes_in, delivered_of, ends_in, has_ended, answered_in}
use Rattle.hc_effects.proofs.{Owed.{goes, denied_opens}, ConsumerFilters.{first_more}, Runs.{by_entries}}

-- WHAT AN EVENT LEAVES OF A ROW

record IsOpened (w u : Exchange) : Type 0 where
  c_is : u.c ≡ w.c
  need_is : u.need ≡ w.need
  request_is : u.request ≡ w.request
  opened_is : u.opened ≡ w.opened

-- OPENINGS

opening_after : (t : Tables) (e : Entry) (x : ℕ) (o : Option Exchange) → option_map opened_in
    (exchange_after t e x o) ≡ option_or (option_map opened_in o) (first (opening_at x e.now (opening_in e.acts)))
unfolding exchange_after
opening_after t e x o = grind (arith, nat_tests)

opening_step : (t : Tables) (e : Entry) (x : ℕ) (b : Bool) → is_denied e.acts ≡ b → option_map opened_in
    ((after t e).exchange x) ≡ option_or (option_map opened_in (t.exchange x)) (first (opening_at x e.now (opening_in e.acts)))
unfolding after
opening_step t e x true denied = rw (denied, denied_opens e.acts denied) (sym (or_none _))
opening_step t e x false denied = rw denied (opening_after t e x (t.exchange x))

pub openings_are : (contents : Contents) (h : History) (x : ℕ) → option_map opened_in ((tables contents h).exchange x) ≡ opening_of x h
unfolding tables
openings_are contents [] x = refl
openings_are contents (e ∷ h) x =
    first_more (each (λ e. opening_at x e.now (opening_in e.acts)) h) (opening_at x e.now (opening_in e.acts)) _ _ (openings_are contents h x)
    (opening_step (tables contents h) e x (is_denied e.acts) refl)

-- HEADS

no_head : (is_open : Bool) (o : Option Response) (asked : Bool) (n : ℕ) (p : Option ℕ) →
    head_refusal (if is_open then Some (record { headed = is_some o; asked = asked; delivered = n; promised = p }) else None) ≡ None → o ≡ None
no_head is_open o asked n p h = grind (arith, nat_tests)

pub headless : (w : Exchange) → head_refusal (as_open (Some w)) ≡ None → w.head ≡ None
headless w h = no_head w.is_open w.head w.asked (length w.body) (promised_bytes w) h

abbrev answered : Option Exchange → Option Answered
answered o = option_and_then answered_in o

made_answered : (t : Tables) (e : Entry) (x : ℕ) (o : Option Opening) → answered (exchange_made t e x o) ≡ None
made_answered t e x o = grind (arith, nat_tests)

-- a row that isn't there has no head, and one that has a head gets no other
heard_answered : (t : Tables) (e : Entry) (x : ℕ) (w : Exchange) (ev : Event) → t.exchange x ≡ Some w → denial t ev ≡ None → answered_in
    (exchange_heard t e x ev w) ≡ option_or (answered_in w) (first (head_in x e.now ev))
unfolding refusals.refusal_of
heard_answered t e x w (event.Head y response) row h = grind (arith, nat_tests)
heard_answered t e x w (event.Piece y bytes) row h = grind (arith, nat_tests)
heard_answered t e x w (event.End y) row h = grind (arith, nat_tests)
heard_answered t e x w (event.Fault y) row h = grind (arith, nat_tests)
heard_answered t e x w _ row h = sym (or_none _)

-- an event of an exchange that isn't there is denied
no_head_in : (t : Tables) (x now : ℕ) (ev : Event) → t.exchange x ≡ None → denial t ev ≡ None → first (head_in x now ev) ≡ None
unfolding refusals.refusal_of
no_head_in t x now ev row h = grind (arith, nat_tests)

head_after : (t : Tables) (e : Entry) (x : ℕ) (o : Option Exchange) → t.exchange x ≡ o → denial t e.event ≡ None →
    answered (exchange_after t e x o) ≡ option_or (answered o) (first (head_in x e.now e.event))
unfolding exchange_after
head_after t e x None row h = made_answered t e x (opening_in e.acts) ∙ sym (no_head_in t x e.now e.event row h)
head_after t e x (Some w) row h = heard_answered t e x w e.event row h

head_step : (limits : Limits) (t : Tables) (e : Entry) (x : ℕ) (b : Bool) → IsOwed limits t e → is_denied e.acts ≡ b →
    answered ((after t e).exchange x) ≡ option_or (answered (t.exchange x)) (first (if_accepted e (head_in x e.now e.event)))
unfolding after
head_step limits t e x true owed denied = rw denied (sym (or_none _))
head_step limits t e x false owed denied = rw denied (head_after t e x (t.exchange x) refl (goes limits t e owed denied))

pub heads_are : (limits : Limits) (contents : Contents) (h : History) (x : ℕ) → IsRun limits contents h →
    answered ((tables contents h).exchange x) ≡ head_of x h
unfolding tables
heads_are limits contents h x run = by_entries limits contents (λ h. answered ((tables contents h).exchange x) ≡ head_of x h) refl (λ h e run before.
    first_more (each (λ e. if_accepted e (head_in x e.now e.event)) h) (if_accepted e (head_in x e.now e.event)) _ _ before
    (head_step limits (tables contents h) e x (is_denied e.acts) run.1 refl)) h run

-- BODIES

abbrev body : Option Exchange → List ℕ
body o = option_map_or (λ (w : Exchange). w.body) o []

made_body : (t : Tables) (e : Entry) (x : ℕ) (o : Option Opening) → body (exchange_made t e x o) ≡ []
made_body t e x o = grind (arith, nat_tests)

heard_body : (t : Tables) (e : Entry) (x : ℕ) (w : Exchange) (ev : Event) → (exchange_heard t e x ev w).body ≡ w.body ++ bytes_in x ev
heard_body t e x w (event.Head y response) = elim (bool_cases (y == x)) [
  | inl here ↦ rw here (sym (append-nil w.body))
  | inr other ↦ rw other (sym (append-nil w.body))
]
heard_body t e x w (event.Piece y bytes) = elim (bool_cases (y == x)) [
  | inl here ↦ rw here refl
  | inr other ↦ rw other (sym (append-nil w.body))
]
heard_body t e x w (event.End y) = elim (bool_cases (y == x)) [
  | inl here ↦ rw here (sym (append-nil w.body))
  | inr other ↦ rw other (sym (append-nil w.body))
]
heard_body t e x w (event.Fault y) = elim (bool_cases (y == x)) [
  | inl here ↦ rw here (sym (append-nil w.body))
  | inr other ↦ rw other (sym (append-nil w.body))
]
heard_body t e x w _ = sym (append-nil w.body)

no_bytes_in : (t : Tables) (x : ℕ) (ev : Event) → t.exchange x ≡ None → denial t ev ≡ None → bytes_in x ev ≡ []
unfolding refusals.refusal_of
no_bytes_in t x ev row h = grind (arith, nat_tests)

body_after : (t : Tables) (e : Entry) (x : ℕ) (o : Option Exchange) → t.exchange x ≡ o → denial t e.event ≡ None →
    body (exchange_after t e x o) ≡ body o ++ bytes_in x e.event
unfolding exchange_after
body_after t e x None row h = made_body t e x (opening_in e.acts) ∙ sym (no_bytes_in t x e.event row h)
body_after t e x (Some w) row h = heard_body t e x w e.event

body_step : (limits : Limits) (t : Tables) (e : Entry) (x : ℕ) (b : Bool) → IsOwed limits t e → is_denied e.acts ≡ b →
    body ((after t e).exchange x) ≡ body (t.exchange x) ++ if_accepted e (bytes_in x e.event)
unfolding after
body_step limits t e x true owed denied = rw denied (sym (append-nil _))
body_step limits t e x false owed denied = rw denied (body_after t e x (t.exchange x) refl (goes limits t e owed denied))

pub bodies_are : (limits : Limits) (contents : Contents) (h : History) (x : ℕ) → IsRun limits contents h →
    body ((tables contents h).exchange x) ≡ delivered_of x h
unfolding tables
bodies_are limits contents h x run = by_entries limits contents (λ h. body ((tables contents h).exchange x) ≡ delivered_of x h) refl (λ h e run before.
    body_step limits (tables contents h) e x (is_denied e.acts) run.1 refl
    ∙ ap (λ (bytes : List ℕ). bytes ++ if_accepted e (bytes_in x e.event)) before) h run

-- ENDS

abbrev ended : Option Exchange → Bool
ended o = option_map_or (λ (w : Exchange). w.is_ended) o false

made_ended : (t : Tables) (e : Entry) (x : ℕ) (o : Option Opening) → ended (exchange_made t e x o) ≡ false
made_ended t e x o = grind (arith, nat_tests)

heard_ended : (t : Tables) (e : Entry) (x : ℕ) (w : Exchange) (ev : Event) → (exchange_heard t e x ev w).is_ended ≡ (ends_in x ev || w.is_ended)
heard_ended t e x w (event.Head y response) = grind (arith, nat_tests)
heard_ended t e x w (event.Piece y bytes) = grind (arith, nat_tests)
heard_ended t e x w (event.End y) = grind (arith, nat_tests)
heard_ended t e x w (event.Fault y) = grind (arith, nat_tests)
heard_ended t e x w _ = refl

no_end_in : (t : Tables) (x : ℕ) (ev : Event) → t.exchange x ≡ None → denial t ev ≡ None → ends_in x ev ≡ false
unfolding refusals.refusal_of
no_end_in t x ev row h = grind (arith, nat_tests)

end_after : (t : Tables) (e : Entry) (x : ℕ) (o : Option Exchange) → t.exchange x ≡ o → denial t e.event ≡ None →
    ended (exchange_after t e x o) ≡ (ends_in x e.event || ended o)
unfolding exchange_after
end_after t e x None row h = made_ended t e x (opening_in e.acts) ∙ sym (or_false (ends_in x e.event) ∙ no_end_in t x e.event row h)
end_after t e x (Some w) row h = heard_ended t e x w e.event

end_step : (limits : Limits) (t : Tables) (e : Entry) (x : ℕ) (b : Bool) → IsOwed limits t e → is_denied e.acts ≡ b →
    ended ((after t e).exchange x) ≡ ((not (is_denied e.acts) && ends_in x e.event) || ended (t.exchange x))
unfolding after
end_step limits t e x true owed denied = rw denied refl
end_step limits t e x false owed denied = rw denied (end_after t e x (t.exchange x) refl (goes limits t e owed denied))

pub ends_are : (limits : Limits) (contents : Contents) (h : History) (x : ℕ) → IsRun limits contents h → ended ((tables contents h).exchange x) ≡ has_ended x h
unfolding tables
ends_are limits contents h x run = by_entries limits contents (λ h. ended ((tables contents h).exchange x) ≡ has_ended x h) refl (λ h e run before.
    end_step limits (tables contents h) e x (is_denied e.acts) run.1 refl
    ∙ ap (λ b. (not (is_denied e.acts) && ends_in x e.event) || b) before) h run
