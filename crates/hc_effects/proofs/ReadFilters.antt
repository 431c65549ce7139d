-- What a consumer was shown and given is a filter of the list of entries.
--
-- Of who hasn't started an entry says nothing (`far_owed`). So what a consumer was given grows by what each entry gives
-- it (`given_after`, `given_step`). Whether it was shown a head is told by those entries that show it one
-- (`shown_after`, `shows_are`). A denied entry does neither. By induction over a run `offsets_are` and `shown_are`
-- follow, and `consumers_are_filtered` adds request and start.
use Rattle.std.{proofs.{lemmas.Bool.Decides.{nat_tests}, Common.{◌≡◌, inl, inr, ℕ, ◌+◌, List, [], ◌∷◌, ◌++◌, length, Bool, true, false, Option, Some, None, refl, ap, sym, ◌∙◌, length-append, arith}}, specs.{Prelude.{◌==◌, ◌||◌, ◌&&◌, not, is_none}, Option.{option_map_or}}}
use Rattle.hc_text.proofs.Basics.{bool_cases}
use Rattle.hc_effects.proofs.Vocabulary.{is_denied, given_in, shows_in, Event, Act, Limits, Entry, History, Contents, flaw_in, Tables, Consumer, starts_over, consumer_after, consumer_made, consumer_heard, consumer_acted, tables, after, IsRun, IsOwed, Shown, first, given_of, shown_of, shown_in, act}
use Rattle.hc_model.specs.Histories.{ConsumersAreFiltered}
use Rattle.hc_effects.proofs.{Owed.{goes, acts_are, denied_gives, denied_shows}, Named.{IsFar, far}, ConsumerFilters.{acted, given_by, shown_by, requests_are, starts_are}, Runs.{by_entries}}

-- NOTHING IS SAID OF WHO HASN'T STARTED

pub far_owed : (limits : Limits) (t : Tables) (e : Entry) (c : ℕ) → IsOwed limits t e → is_denied e.acts ≡ false → t.consumer c ≡ None → IsFar c e.acts
far_owed limits t e c owed not_denied none =
    let f = far limits t e.now c (flaw_in e.acts) none e.event (goes limits t e owed not_denied) in
    let is = acts_are limits t e owed not_denied in
    record { gives = ap (given_in c) is ∙ f.gives; shows = ap (shows_in c) is ∙ f.shows }

-- GIVEN BYTES

abbrev given : Option Consumer → ℕ
given o = option_map_or (λ (k : Consumer). k.given) o 0

made_given : (c now : ℕ) (ev : Event) → given (consumer_made c now ev) ≡ 0
made_given c now ev = grind (arith, nat_tests)

given_after : (t : Tables) (e : Entry) (c : ℕ) (o : Option Consumer) → (o ≡ None → given_in c e.acts ≡ []) →
    given (consumer_after t e c o) ≡ given o + length (given_in c e.acts)
unfolding consumer_after
given_after t e c None none =
    let no : length (given_in c e.acts) ≡ 0 = ap length (none refl) in
    let made : given (consumer_made c e.now e.event) ≡ 0 = made_given c e.now e.event in
    omega arith
given_after t e c (Some k) none =
    given_by (starts_over t e c k) t e c k (consumer_acted t e c (consumer_heard t e c e.event k)) ∙ (acted t e c k).given_is

given_step : (limits : Limits) (t : Tables) (e : Entry) (c : ℕ) (b : Bool) → IsOwed limits t e → is_denied e.acts ≡ b →
    given ((after t e).consumer c) ≡ given (t.consumer c) + length (given_in c e.acts)
unfolding after
given_step limits t e c true owed denied =
    let no : length (given_in c e.acts) ≡ 0 = ap length (denied_gives c e.acts denied) in
    rw denied (let here : given (t.consumer c) ≡ given (t.consumer c) + length (given_in c e.acts) = omega arith in here)
given_step limits t e c false owed denied = rw denied (given_after t e c (t.consumer c) (λ none. (far_owed limits t e c owed denied none).gives))

offsets_are : (limits : Limits) (contents : Contents) (h : History) (c : ℕ) → IsRun limits contents h →
    given ((tables contents h).consumer c) ≡ length (given_of c h)
unfolding tables
offsets_are limits contents h c run = by_entries limits contents (λ h. given ((tables contents h).consumer c) ≡ length (given_of c h)) refl (λ h e run before.
    let step = given_step limits (tables contents h) e c (is_denied e.acts) run.1 refl in
    let all = length-append (given_of c h) (given_in c e.acts) in
    step ∙ (ap (λ n. n + length (given_in c e.acts)) before ∙ sym all)) h run

-- SHOWN HEADS

-- a head is shown among the acts where there is one among those that are shown
pub shows_are : (c : ℕ) (acts : List Act) → is_none (first (shown_in c acts)) ≡ not (shows_in c acts)
shows_are c [] = refl
shows_are c (act.Shown d r why status fields lo hi ∷ acts) = elim (bool_cases (d == c)) [
  | inl here ↦ rw here refl
  | inr other ↦ rw other (shows_are c acts)
]
shows_are c (act.Opened x d need request ∷ acts) = shows_are c acts
shows_are c (act.Ask x ∷ acts) = shows_are c acts
shows_are c (act.Close x ∷ acts) = shows_are c acts
shows_are c (act.Given d x at bytes ∷ acts) = shows_are c acts
shows_are c (act.Ended d ∷ acts) = shows_are c acts
shows_are c (act.Failed d cause ∷ acts) = shows_are c acts
shows_are c (act.Pending d wait ∷ acts) = shows_are c acts
shows_are c (act.Lost r kind ∷ acts) = shows_are c acts
shows_are c (act.Evicted r ∷ acts) = shows_are c acts
shows_are c (act.Denied refusal ∷ acts) = shows_are c acts

abbrev unshown : Option Consumer → Bool
unshown o = option_map_or (λ (k : Consumer). not k.shown) o true

none_of_both : {A : Type 0} (xs ys : List A) → is_none (first (xs ++ ys)) ≡ (is_none (first xs) && is_none (first ys))
none_of_both xs ys = grind (arith, nat_tests)

not_or : (a b : Bool) → not (a || b) ≡ (not b && not a)
not_or a b = grind (arith, nat_tests)

made_shown : (c now : ℕ) (ev : Event) → unshown (consumer_made c now ev) ≡ true
made_shown c now ev = grind (arith, nat_tests)

shown_after : (t : Tables) (e : Entry) (c : ℕ) (o : Option Consumer) → (o ≡ None → shows_in c e.acts ≡ false) →
    unshown (consumer_after t e c o) ≡ (unshown o && not (shows_in c e.acts))
unfolding consumer_after
shown_after t e c None none = made_shown c e.now e.event ∙ sym (ap not (none refl))
shown_after t e c (Some k) none =
    ap not (shown_by (starts_over t e c k) t e c k (consumer_acted t e c (consumer_heard t e c e.event k)) ∙ (acted t e c k).shown_is)
    ∙ not_or (shows_in c e.acts) k.shown

and_none : (b : Bool) → b ≡ (b && true)
and_none b = grind (arith, nat_tests)

shown_step : (limits : Limits) (t : Tables) (e : Entry) (c : ℕ) (b : Bool) → IsOwed limits t e → is_denied e.acts ≡ b →
    unshown ((after t e).consumer c) ≡ (unshown (t.consumer c) && is_none (first (shown_in c e.acts)))
unfolding after
shown_step limits t e c true owed denied =
    let no : is_none (first (shown_in c e.acts)) ≡ true = ap (λ (xs : List Shown). is_none (first xs)) (denied_shows c e.acts denied) in
    rw denied (and_none (unshown (t.consumer c)) ∙ ap (λ b. unshown (t.consumer c) && b) (sym no))
shown_step limits t e c false owed denied =
    rw denied (shown_after t e c (t.consumer c) (λ none. (far_owed limits t e c owed denied none).shows) ∙
    ap (λ b. unshown (t.consumer c) && b) (sym (shows_are c e.acts)))

shown_are : (limits : Limits) (contents : Contents) (h : History) (c : ℕ) → IsRun limits contents h →
    unshown ((tables contents h).consumer c) ≡ is_none (first (shown_of c h))
unfolding tables
shown_are limits contents h c run =
    by_entries limits contents (λ h. unshown ((tables contents h).consumer c) ≡ is_none (first (shown_of c h))) refl (λ h e run before.
    shown_step limits (tables contents h) e c (is_denied e.acts) run.1 refl
    ∙ (ap (λ b. b && is_none (first (shown_in c e.acts))) before ∙ sym (none_of_both (shown_of c h) (shown_in c e.acts)))) h run

pub consumers_are_filtered : ConsumersAreFiltered
consumers_are_filtered limits contents h run = record {
  requests = requests_are contents h;
  starts = starts_are contents h;
  offsets = λ c. offsets_are limits contents h c run;
  shown = λ c. shown_are limits contents h c run;
}
