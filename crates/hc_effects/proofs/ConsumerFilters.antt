-- The columns of consumers are filters of the list of entries.
--
-- Events and openings keep request, start, and what was shown and given (`heard_same`); acts add what they say
-- (`acted`). Settling changes none but the start, where it starts over (`request_by`, `given_by`, `shown_by`,
-- `since_by`). So by induction over entries a request and a start are filters (`requests_are`, `starts_are`). What was
-- shown and given is read off the same lemmas in ReadFilters.
use Rattle.std.{proofs.{lemmas.Bool.Decides.{nat_tests}, Common.{arith, ◌≡◌, ℕ, ◌+◌, List, [], ◌∷◌, ◌++◌, length, Bool, true, false, cond, Option, Some, None, refl, ap, sym, ◌∙◌}}, specs.{Prelude.{if◌then◌else◌, ◌==◌, ◌||◌, option_map}, Option.{option_or}}}
use Rattle.hc_text.proofs.Basics.{or_none}
use Rattle.hc_effects.proofs.Vocabulary.{Opening, opening_in, is_denied, given_in, shows_in, Event, Entry, History, Contents, Tables, Exchange, Consumer, starts_over, consumer_after, consumer_made, consumer_heard, consumer_acted, consumer_settled, by_head, by_fault, by_opening, waiting, back_in_line, due_after, tables, after, each, each_after, first, if_accepted, request_in, request_of, event}
use Rattle.hc_model.specs.{ConsumerRows.{with_head, with_opening}, Histories.{last, since_of, start_in, start_at, starts_over_at}}
use Rattle.hc_event.specs.declared.place.Place.TheVariants as place

-- LISTS

pub first_append : {A : Type 0} (xs ys : List A) → first (xs ++ ys) ≡ option_or (first xs) (first ys)
first_append xs ys = grind (arith, nat_tests)

-- with one more entry
pub first_more : {A : Type 0} (xs ys : List A) (o p : Option A) → o ≡ first xs → p ≡ option_or o (first ys) → p ≡ first (xs ++ ys)
first_more xs ys o p is more = more ∙ (ap (λ q. option_or q (first ys)) is ∙ sym (first_append xs ys))

last_append : {A : Type 0} (xs ys : List A) → last (xs ++ ys) ≡ option_or (last ys) (last xs)
last_append [] ys = sym (or_none (last ys))
last_append (x ∷ xs) ys = ap (λ q. option_or q (Some x)) (last_append xs ys) ∙ or_or (last ys) (last xs) x
  where
    or_or : {A : Type 0} (o p : Option A) (x : A) → option_or (option_or o p) (Some x) ≡ option_or o (option_or p (Some x))
    or_or None p x = refl
    or_or (Some a) p x = refl

-- WHAT EVENTS AND OPENINGS LEAVE OF A ROW

pub record IsSame (k u : Consumer) : Type 0 where
  pub request_is : u.request ≡ k.request
  pub since_is : u.since ≡ k.since
  pub given_is : u.given ≡ k.given
  pub shown_is : u.shown ≡ k.shown

same : (k : Consumer) → IsSame k k
same k = record { request_is = refl; since_is = refl; given_is = refl; shown_is = refl }

same_if : (b : Bool) (k u : Consumer) → IsSame k u → IsSame k (cond b u k)
same_if true k u is = is
same_if false k u is = same k

pub heard_same : (t : Tables) (e : Entry) (c : ℕ) (ev : Event) (k : Consumer) → IsSame k (consumer_heard t e c ev k)
heard_same t e c (event.Head x response) k = by_row (t.exchange x)
  where
    by_row : (o : Option Exchange) → IsSame k (by_head t e c x response o k)
    by_row None = same k
    by_row (Some w) = same_if (w.c == c) k (with_head t e x response w k) (record { request_is = refl; since_is = refl; given_is = refl; shown_is = refl })
heard_same t e c (event.Fault x) k = by_row (t.exchange x)
  where
    by_row : (o : Option Exchange) → IsSame k (by_fault c x o k)
    by_row None = same k
    by_row (Some w) = same_if _ k _ (record { request_is = refl; since_is = refl; given_is = refl; shown_is = refl })
heard_same t e c (event.Cancel d) k =
    same_if (d == c) k (record k { place = place.Over }) (record { request_is = refl; since_is = refl; given_is = refl; shown_is = refl })
heard_same t e c _ k = same k

opening_same : (t : Tables) (c : ℕ) (o : Option Opening) (k : Consumer) → IsSame k (by_opening t c o k)
opening_same t c None k = same k
opening_same t c (Some o) k = same_if (o.c == c) k (with_opening t o k) (record { request_is = refl; since_is = refl; given_is = refl; shown_is = refl })

-- and what the acts make of it
pub record IsActed (e : Entry) (c : ℕ) (k u : Consumer) : Type 0 where
  pub request_is : u.request ≡ k.request
  pub since_is : u.since ≡ k.since
  pub given_is : u.given ≡ k.given + length (given_in c e.acts)
  pub shown_is : u.shown ≡ (shows_in c e.acts || k.shown)

pub acted : (t : Tables) (e : Entry) (c : ℕ) (k : Consumer) → IsActed e c k (consumer_acted t e c (consumer_heard t e c e.event k))
acted t e c k =
    let h = heard_same t e c e.event k in
    let o = opening_same t c (opening_in e.acts) (waiting t e c (consumer_heard t e c e.event k)) in
    record {
      request_is = o.request_is ∙ h.request_is;
      since_is = o.since_is ∙ h.since_is;
      given_is = ap (λ n. n + length (given_in c e.acts)) (o.given_is ∙ h.given_is);
      shown_is = ap (λ b. shows_in c e.acts || b) (o.shown_is ∙ h.shown_is);
    }

pub request_by : (b : Bool) (t : Tables) (e : Entry) (c : ℕ) (k q : Consumer) → (cond b (back_in_line e.now q) (due_after t e c k q)).request ≡ q.request
request_by b t e c k q = grind (arith, nat_tests)

pub given_by : (b : Bool) (t : Tables) (e : Entry) (c : ℕ) (k q : Consumer) → (cond b (back_in_line e.now q) (due_after t e c k q)).given ≡ q.given
given_by b t e c k q = grind (arith, nat_tests)

pub shown_by : (b : Bool) (t : Tables) (e : Entry) (c : ℕ) (k q : Consumer) → (cond b (back_in_line e.now q) (due_after t e c k q)).shown ≡ q.shown
shown_by b t e c k q = grind (arith, nat_tests)

pub since_by : (b : Bool) (t : Tables) (e : Entry) (c : ℕ) (k q : Consumer) →
    Some ((cond b (back_in_line e.now q) (due_after t e c k q)).since) ≡ option_or (last (cond b (e.now ∷ []) [])) (Some q.since)
since_by b t e c k q = grind (arith, nat_tests)

after_request : (t : Tables) (e : Entry) (c : ℕ) (k : Consumer) →
    (consumer_settled t e c k (consumer_acted t e c (consumer_heard t e c e.event k))).request ≡ k.request
after_request t e c k = request_by (starts_over t e c k) t e c k (consumer_acted t e c (consumer_heard t e c e.event k)) ∙ (acted t e c k).request_is

-- REQUESTS

made_request : (c now : ℕ) (ev : Event) → option_map (λ (k : Consumer). k.request) (consumer_made c now ev) ≡ first (request_in c ev)
made_request c now ev = grind (arith, nat_tests)

-- the request after an accepted entry
request_after : (t : Tables) (e : Entry) (c : ℕ) (o : Option Consumer) →
    option_map (λ (k : Consumer). k.request) (consumer_after t e c o) ≡ option_or (option_map (λ (k : Consumer). k.request) o) (first (request_in c e.event))
unfolding consumer_after
request_after t e c None = made_request c e.now e.event
request_after t e c (Some k) = ap Some (after_request t e c k)

request_step : (t : Tables) (e : Entry) (c : ℕ) (b : Bool) → is_denied e.acts ≡ b →
    option_map (λ (k : Consumer). k.request) ((after t e).consumer c) ≡ option_or (option_map (λ (k : Consumer). k.request) (t.consumer c))
    (first (if_accepted e (request_in c e.event)))
unfolding after
request_step t e c true denied = rw denied (sym (or_none _))
request_step t e c false denied = rw denied (request_after t e c (t.consumer c))

pub requests_are : (contents : Contents) (h : History) (c : ℕ) → option_map (λ (k : Consumer). k.request) ((tables contents h).consumer c) ≡ request_of c h
unfolding tables
requests_are contents [] c = refl
requests_are contents (e ∷ h) c =
    first_more (each (λ e. if_accepted e (request_in c e.event)) h) (if_accepted e (request_in c e.event)) _ _ (requests_are contents h c)
    (request_step (tables contents h) e c (is_denied e.acts) refl)

-- STARTS

made_since : (t : Tables) (e : Entry) (c : ℕ) (ev : Event) →
    option_map (λ (k : Consumer). k.since) (consumer_made c e.now ev) ≡ last (if start_in c ev then e.now ∷ [] else [])
made_since t e c ev = grind (arith, nat_tests)

since_after : (t : Tables) (e : Entry) (c : ℕ) (o : Option Consumer) →
    option_map (λ (k : Consumer). k.since) (consumer_after t e c o) ≡ option_or (last (if starts_over_at t e c o then e.now ∷ [] else []))
    (option_map (λ (k : Consumer). k.since) o)
unfolding consumer_after
since_after t e c None = made_since t e c e.event ∙ sym (or_none _)
since_after t e c (Some k) =
    since_by (starts_over t e c k) t e c k (consumer_acted t e c (consumer_heard t e c e.event k))
    ∙ ap (λ n. option_or (last (if starts_over t e c k then e.now ∷ [] else [])) (Some n)) (acted t e c k).since_is

since_step : (t : Tables) (e : Entry) (c : ℕ) (b : Bool) → is_denied e.acts ≡ b →
    option_map (λ (k : Consumer). k.since) ((after t e).consumer c) ≡ option_or (last (if_accepted e (start_at c t e)))
    (option_map (λ (k : Consumer). k.since) (t.consumer c))
unfolding after
since_step t e c true denied = rw denied refl
since_step t e c false denied = rw denied (since_after t e c (t.consumer c))

pub starts_are : (contents : Contents) (h : History) (c : ℕ) → option_map (λ (k : Consumer). k.since) ((tables contents h).consumer c) ≡ since_of contents c h
unfolding tables
starts_are contents [] c = refl
starts_are contents (e ∷ h) c =
    since_step (tables contents h) e c (is_denied e.acts) refl
    ∙ (ap (λ o. option_or (last (if_accepted e (start_at c (tables contents h) e))) o) (starts_are contents h c)
    ∙ sym (last_append (each_after (λ t e. if_accepted e (start_at c t e)) contents h) (if_accepted e (start_at c (tables contents h) e))))
