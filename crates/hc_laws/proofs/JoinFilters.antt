-- What an exchange joined is a filter of the list of entries.
--
-- An exchange without a head has joined nothing (`joins_late`), which is an induction over entries. So when its head
-- comes that alone tells what it joins (`heard_joined`); any other event leaves it, and one of an exchange
-- without a row is denied. By induction over a run `joins_are` follows. `exchanges_are_filtered` puts it together with
-- openings, heads, bodies and ends.
use Rattle.std.{proofs.{Common.{◌≡◌, ℕ, List, [], ◌∷◌, Bool, true, false, cond, Option, Some, None, refl, ap, sym, ◌∙◌, arith}, lemmas.Bool.Decides.{nat_tests}}, specs.{Prelude.{if◌then◌else◌, option_and_then}, Option.{option_map_or, option_or}}}
use Rattle.hc_text.proofs.Basics.{or_none}
use Rattle.hc_effects.proofs.Vocabulary.{Opening, opening_in, is_denied, Event, Limits, case_at, is_joining, denial, Entry, History, Contents, exchange_after, exchange_heard, exchange_made, Tables, Exchange, IsRun, IsOwed, tables, after, each_after, first, if_accepted, joined_of, event}
use Rattle.hc_rules.specs.Refusals as refusals
use Rattle.hc_model.specs.Histories.{joining_in, joining_at, ExchangesAreFiltered}
use Rattle.hc_effects.proofs.{Owed.{goes}, ConsumerFilters.{first_more}, Runs.{by_entries}}
use Rattle.hc_laws.proofs.ExchangeFilters.{openings_are, heads_are, bodies_are, ends_are}

-- WHO HAS NO HEAD JOINED NOTHING

abbrev JoinsLate : Option Exchange → Type 0
JoinsLate None = Unit {0}
JoinsLate (Some w) = w.head ≡ None → w.joined ≡ None

after_late : (t : Tables) (e : Entry) (x : ℕ) (o : Option Exchange) → JoinsLate o → JoinsLate (exchange_after t e x o)
unfolding exchange_after
after_late t e x o late = grind (arith, nat_tests)

step_late : (t : Tables) (e : Entry) (x : ℕ) (b : Bool) → is_denied e.acts ≡ b → JoinsLate (t.exchange x) → JoinsLate ((after t e).exchange x)
unfolding after
step_late t e x true denied late = rw denied late
step_late t e x false denied late = rw denied (after_late t e x (t.exchange x) late)

pub joins_late : (contents : Contents) (h : History) (x : ℕ) → JoinsLate ((tables contents h).exchange x)
unfolding tables
joins_late contents [] x = tt
joins_late contents (e ∷ h) x = step_late (tables contents h) e x (is_denied e.acts) refl (joins_late contents h x)

-- WHAT IT JOINED

abbrev joined : Option Exchange → Option ℕ
joined o = option_and_then (λ (w : Exchange). w.joined) o

made_joined : (t : Tables) (e : Entry) (x : ℕ) (o : Option Opening) → joined (exchange_made t e x o) ≡ None
made_joined t e x o = grind (arith, nat_tests)

none_if : (b : Bool) (xs : List ℕ) → xs ≡ [] → first (if b then xs else []) ≡ None
none_if b xs none = grind (arith, nat_tests)

no_more : (o : Option ℕ) (b : Bool) (xs : List ℕ) → xs ≡ [] → o ≡ option_or o (first (if b then xs else []))
no_more o b xs none = sym (ap (option_or o) (none_if b xs none) ∙ or_none o)

heard_joined : (t : Tables) (e : Entry) (x : ℕ) (w : Exchange) (ev : Event) → t.exchange x ≡ Some w → denial t ev ≡ None →
    (w.head ≡ None → w.joined ≡ None) →
    (exchange_heard t e x ev w).joined ≡ option_or w.joined (first (if is_joining (case_at t e) then joining_in t x ev (Some w) else []))
unfolding refusals.refusal_of
heard_joined t e x w (event.Head y response) row h late = grind (arith, nat_tests)
heard_joined t e x w (event.Piece y bytes) row h late = grind (arith, nat_tests)
heard_joined t e x w (event.End y) row h late = grind (arith, nat_tests)
heard_joined t e x w (event.Fault y) row h late = grind (arith, nat_tests)
heard_joined t e x w _ row h late = no_more w.joined _ _ refl

-- an exchange that isn't there joins nothing
no_joining : (t : Tables) (x : ℕ) (ev : Event) → joining_in t x ev None ≡ []
no_joining t x ev = grind (arith, nat_tests)

joined_after : (t : Tables) (e : Entry) (x : ℕ) (o : Option Exchange) → t.exchange x ≡ o → denial t e.event ≡ None → JoinsLate o →
    joined (exchange_after t e x o) ≡ option_or (joined o) (first (if is_joining (case_at t e) then joining_in t x e.event o else []))
unfolding exchange_after
joined_after t e x None row h late = made_joined t e x (opening_in e.acts) ∙
    sym (none_if (is_joining (case_at t e)) (joining_in t x e.event None) (no_joining t x e.event))
joined_after t e x (Some w) row h late = heard_joined t e x w e.event row h late

joined_step : (limits : Limits) (t : Tables) (e : Entry) (x : ℕ) (b : Bool) → IsOwed limits t e → is_denied e.acts ≡ b → JoinsLate (t.exchange x) →
    joined ((after t e).exchange x) ≡ option_or (joined (t.exchange x)) (first (if_accepted e (joining_at x t e)))
unfolding after
joined_step limits t e x true owed denied late = rw denied (sym (or_none _))
joined_step limits t e x false owed denied late = rw denied (joined_after t e x (t.exchange x) refl (goes limits t e owed denied) late)

joins_are : (limits : Limits) (contents : Contents) (h : History) (x : ℕ) → IsRun limits contents h →
    joined ((tables contents h).exchange x) ≡ joined_of contents x h
unfolding tables
joins_are limits contents h x run = by_entries limits contents (λ h. joined ((tables contents h).exchange x) ≡ joined_of contents x h) refl (λ h e run before.
    first_more (each_after (λ t e. if_accepted e (joining_at x t e)) contents h) (if_accepted e (joining_at x (tables contents h) e)) _ _ before
    (joined_step limits (tables contents h) e x (is_denied e.acts) run.1 refl (joins_late contents h x))) h run

pub exchanges_are_filtered : ExchangesAreFiltered
exchanges_are_filtered limits contents h run = record {
  openings = openings_are contents h;
  heads = λ x. heads_are limits contents h x run;
  bodies = λ x. bodies_are limits contents h x run;
  ends = λ x. ends_are limits contents h x run;
  joins = λ x. joins_are limits contents h x run;
}
