-- Who is over stays so. So no more are live than may start, in every run.
--
-- Of who is over each event is looked at. No exchange waits for it (`unawaited`), and its own events are denied
-- (`own`). A fault of what was opened for it doesn't make it start over (`unsent`). So it stays over (`stays_over`),
-- and who is live was so, or has just started (`was_live`). A start is denied where 1,024 are live (`starts_few`). So
-- the count stays within that (`few_kept`), in every run (`few_in_runs`).
use Rattle.std.{proofs.{Common.{◌≡◌, inl, inr, ℕ, ◌+◌, ◌<◌, ◌≤◌, List, [], ◌∷◌, length, Bool, true, false, Option, Some, None, refl, ap, sym, ◌∙◌, arith}, lemmas.Bool.Decides.{nat_tests}}, specs.Prelude.{filter, nat_eq, nat_lt, is_none, ◌||◌, not, if◌then◌else◌}}
use Rattle.hc_text.proofs.Basics.{bool_cases, not_some as none_some, never_true as not_so, and_off as right_off}
use Rattle.hc_event.specs.declared.act.Refusal.TheVariants as refusal
use Rattle.hc_effects.proofs.Vocabulary.{Event, Request, Response, Limits, Place, has_loss, case_at, case_of, consumer_heard, consumer_made, consumer_after, by_fault, back_in_line, denial, is_live, is_live_place, live, doomed_key_of, is_key, Entry, is_for, is_event_for, beside, StartsOverBy, entry_of, OfRuns, OfRunsIn, Descends, IsAwaiting, Tables, Exchange, Consumer, starts_over, waits_at, sends_back, loses_what_it_waits_for, after_accepted, starts_after, event, place}
use Rattle.hc_rules.specs.Refusals as refusals
use Rattle.hc_model.specs.Frames as frames
use Rattle.hc_model.specs.Live.{FewLive}
use Rattle.hc_model.specs.Owners as owners
use Rattle.hc_effects.proofs.{Basics.{false_true}, EventsKeep.{poll_live}, FirstKeeps.{is_new}, NumbersKeep.{starts_later}, Standing.{far_by, after_heard, standers_stay, starting_over_is_caused}, Waiters.{waiter_as, fault_open_of}, Step.{Step, step_of}}
use Rattle.hc_laws.proofs.{OrderRuns.{starts_on}, RunFacts.{in_runs}}

-- NO MORE OF A LIST

-- of what stands below n no more passes this test than that one
fewer : (f g : ℕ → Bool) (n : ℕ) (xs : List ℕ) → Descends n xs → ((c : ℕ) → c < n → g c ≡ true → f c ≡ true) → length (filter g xs) ≤ length (filter f xs)
fewer f g n [] d passes = omega arith
fewer f g n (x ∷ xs) d passes =
    let rest : length (filter g xs) ≤ length (filter f xs) = fewer f g x xs d.1 (λ c lt h. passes c (let below : x < n = d.0 in omega arith) h) in
    elim (bool_cases (g x)) [
      | inl on ↦ let also : f x ≡ true = passes x d.0 on in rw (on, also) (omega arith)
      | inr off ↦ elim (bool_cases (f x)) [
        | inl was ↦ rw (off, was) (omega arith)
        | inr too ↦ rw (off, too) rest
      ]
    ]

one_more : (f : ℕ → Bool) (x : ℕ) (xs : List ℕ) → length (filter f (x ∷ xs)) ≤ length (filter f xs) + 1
one_more f x xs = elim (bool_cases (f x)) [
  | inl on ↦ rw on (omega arith)
  | inr off ↦ rw off (omega arith)
]

-- REFUSED

-- a consumer starts only where fewer are live
pub starts_few : (t : Tables) (c : ℕ) (request : Request) → denial t (event.Start c request) ≡ None → live t < 1024
unfolding refusals.refusal_of
starts_few t c request h = grind (arith, nat_tests)

live_by : (late on : Bool) → (if late then Some refusal.NoConsumer else if not on then Some refusal.Finished else None) ≡ None → on ≡ true
live_by false true h = refl
live_by _ _ h = cc

cancels_live : (t : Tables) (c : ℕ) → denial t (event.Cancel c) ≡ None → is_live (t.consumer c) ≡ true
unfolding refusals.refusal_of
cancels_live t c h = live_by (nat_lt t.last_start c) (is_live (t.consumer c)) h

-- WHO IS OVER STAYS SO

three_off : (a b c : Bool) → a ≡ false → b ≡ false → c ≡ false → (a || b || c) ≡ false
three_off false false c p q r = r
three_off _ _ c p q r = cc

module _ (step : Step) where
  open step use {limits, tables as t, now, flaw, sound as s, event as ev, accepted as goes}

  abbrev e : Entry
  e = entry_of limits t now ev flaw

  abbrev now_on : Tables
  now_on = after_accepted t e

  module _ (c : ℕ) (k : Consumer) (row : t.consumer c ≡ Some k) (over : k.place ≡ place.Over) where
    dead : is_live (t.consumer c) ≡ false
    dead = ap is_live row ∙ ap is_live_place over

    -- no exchange waits for it to hear its head
    unawaited : (x : ℕ) (w : Exchange) → IsAwaiting x w k.place → ⊥
    unawaited x w (owners.direct by at) = let no : place.Over ≡ place.Direct x = sym over ∙ at in cc
    unawaited x w (owners.turn by at) = let no : place.Over ≡ place.Turn x = sym over ∙ at in cc
    unawaited x w (owners.hole r lo hi how by aim at) = let no : place.Over ≡ place.Bound r lo hi how = sym over ∙ at in cc

    unheard : (x : ℕ) (w : Exchange) → t.exchange x ≡ Some w → w.c ≡ c → w.is_open ≡ true → w.head ≡ None → ⊥
    unheard x w w_row mine on bare = unawaited x w (waiter_as step c x k w row w_row mine on bare).at

    put : starts_over t e c k ≡ false → now_on.consumer c ≡ Some (if starts_over t e c k then back_in_line now k else beside t e c k) →
        is_live (now_on.consumer c) ≡ false
    put stays is = ap is_live is ∙ (rw stays (ap is_live_place over))

    caused : StartsOverBy t e k → ⊥
    caused (frames.by_doom doom waits) = false_true (sym (ap (waits_at t) over) ∙ waits)
    caused (frames.by_going r kept at gone) = let no : place.Over ≡ place.Passed r kept = sym over ∙ at in cc

    -- at another's event
    apart : is_event_for t c ev ≡ false → is_live (now_on.consumer c) ≡ false
    apart off = put (not_so (starts_over t e c k) (λ h. caused (starting_over_is_caused t e c k off h)))
        (standers_stay limits t now ev flaw e frames.whole c k row off)

    -- at a fault of an exchange that was opened for it, which others read by now
    unsent : (x : ℕ) → ev ≡ event.Fault x → starts_over t e c k ≡ false
    unfolding starts_over case_of
    unsent x here =
        let none : sends_back (case_at t e) ≡ false = ap (λ (z : Event). sends_back (case_of t (has_loss e.acts) z)) here in
        three_off _ _ _ (right_off (is_key (doomed_key_of t e) k.request.key) _ (ap (waits_at t) over)) (rw none refl) (ap (loses_what_it_waits_for t e c) over)

    quiet : (x : ℕ) (z : Option Exchange) → t.exchange x ≡ z → ev ≡ event.Fault x → is_for z c ≡ true → by_fault c x z k ≡ k
    quiet x None w_row here mine = refl
    quiet x (Some w) w_row here mine = by_head w.head refl
      where
        opened : w.is_open ≡ true
        opened = fault_open_of step x w (sym (ap (denial t) here) ∙ goes) w_row

        by_head : (h : Option Response) → w.head ≡ h → by_fault c x (Some w) k ≡ k
        by_head None bare = absurd (unheard x w w_row (let test : nat_eq w.c c ≡ true = mine in grind (arith, nat_tests)) opened bare)
        by_head (Some response) is = let some : is_none w.head ≡ false = ap (λ (q : Option Response). is_none q) is in rw (mine, some) refl

    faulted : (x : ℕ) → ev ≡ event.Fault x → is_for (t.exchange x) c ≡ true → is_live (now_on.consumer c) ≡ false
    faulted x here mine =
        let far = far_by limits t now ev flaw c (λ d want at. let no : event.Fault x ≡ event.Poll d want = sym here ∙ at in cc) e frames.whole in
        put (unsent x here) (after_heard t e c k far (ap (λ (z : Event). consumer_heard t e c z k) here ∙ quiet x (t.exchange x) refl here mine)
        (t.consumer c) row)

    polled : (d want : ℕ) → denial t (event.Poll d want) ≡ None → is_live (t.consumer d) ≡ true
    unfolding refusals.refusal_of
    polled d want h = poll_live limits t now flaw s d want h

    -- at its own event
    own : (z : Event) → ev ≡ z → is_event_for t c z ≡ true → is_live (now_on.consumer c) ≡ false
    own (event.Start d request) here mine =
        let same : d ≡ c = (let test : nat_eq d c ≡ true = mine in grind (arith, nat_tests)) in
        let lt : t.last_start < d = starts_later t d request (sym (ap (denial t) here) ∙ goes) in
        absurd (none_some k (sym (s.numbered.lists.new_consumers c (omega arith)) ∙ row))
    own (event.Poll d want) here mine =
        let same : d ≡ c = (let test : nat_eq d c ≡ true = mine in grind (arith, nat_tests)) in
        absurd (false_true (sym dead ∙ (sym (ap (λ n. is_live (t.consumer n)) same) ∙ polled d want (sym (ap (denial t) here) ∙ goes))))
    own (event.Cancel d) here mine =
        let same : d ≡ c = (let test : nat_eq d c ≡ true = mine in grind (arith, nat_tests)) in
        absurd (false_true (sym dead ∙ (sym (ap (λ n. is_live (t.consumer n)) same) ∙ cancels_live t d (sym (ap (denial t) here) ∙ goes))))
    own (event.Head x response) here mine = by_row (t.exchange x) refl mine
      where
        by_row : (z : Option Exchange) → t.exchange x ≡ z → is_for z c ≡ true → is_live (now_on.consumer c) ≡ false
        by_row None w_row its = absurd (false_true its)
        by_row (Some w) w_row its =
            let new = is_new limits t now flaw s ev goes x response w here w_row in
            absurd (unheard x w w_row (let test : nat_eq w.c c ≡ true = its in grind (arith, nat_tests)) new.is_open new.bare)
    own (event.Fault x) here mine = faulted x here mine
    own _ here mine = absurd (false_true mine)

    pub stays_over : is_live (now_on.consumer c) ≡ false
    stays_over = elim (bool_cases (is_event_for t c ev)) [ inl mine ↦ own ev refl mine | inr off ↦ apart off ]

  unmade : (c : ℕ) → c ≤ t.last_start → (z : Event) → denial t z ≡ None → consumer_made c now z ≡ None
  unmade c le (event.Start d request) h =
      let lt : t.last_start < d = starts_later t d request h in
      let off : nat_eq d c ≡ false = grind (arith, nat_tests) in
      rw off refl
  unmade c le _ h = refl

  still_none : (c : ℕ) → t.consumer c ≡ None → c ≤ t.last_start → now_on.consumer c ≡ None
  unfolding consumer_after
  still_none c row le = ap (consumer_after t e c) row ∙ unmade c le ev goes

  -- who is live after an entry and started before it was live
  was_live : (c : ℕ) (z : Option Consumer) → t.consumer c ≡ z → c ≤ t.last_start → is_live (now_on.consumer c) ≡ true → is_live (t.consumer c) ≡ true
  was_live c None row le now_live = absurd (false_true (sym (ap is_live (still_none c row le)) ∙ now_live))
  was_live c (Some k) row le now_live = by_place k.place refl
    where
      by_place : (p : Place) → k.place ≡ p → is_live (t.consumer c) ≡ true
      by_place place.Over at = absurd (false_true (sym (stays_over c k row at) ∙ now_live))
      by_place _ at = ap is_live row ∙ ap is_live_place at

  -- HOW MANY

  abbrev passes : ℕ → Bool
  passes c = is_live (now_on.consumer c)

  no_more : Descends (t.last_start + 1) t.starts → length (filter passes t.starts) ≤ live t
  no_more d = fewer (λ c. is_live (t.consumer c)) passes (t.last_start + 1) t.starts d (λ c lt on. was_live c (t.consumer c) refl (omega arith) on)

  few_kept : Descends (t.last_start + 1) t.starts → live t ≤ 1024 → live now_on ≤ 1024
  few_kept d few = by_event ev goes
    where
      by_event : (z : Event) → denial t z ≡ None → length (filter passes (starts_after z t.starts)) ≤ 1024
      by_event (event.Start c request) h =
          let lt : live t < 1024 = starts_few t c request h in
          let le : length (filter passes t.starts) ≤ live t = no_more d in
          let one : length (filter passes (c ∷ t.starts)) ≤ length (filter passes t.starts) + 1 = one_more passes c t.starts in
          omega arith
      by_event _ h = let le : length (filter passes t.starts) ≤ live t = no_more d in omega arith

-- IN RUNS

record IsFew (limits : Limits) (t : Tables) : Type 0 where
  starts : Descends (t.last_start + 1) t.starts
  few : live t ≤ 1024

few : OfRunsIn IsFew
few = in_runs IsFew
    (λ limits contents may. record { starts = tt; few = omega arith })
    (λ limits t e later f. record { starts = f.starts; few = f.few })
    (λ limits t now flaw later c f ev goes real. record
    { starts = starts_on t ev goes f.starts; few = few_kept (step_of limits t now flaw c.is_sound c.is_owned ev goes) f.starts f.few })

pub few_in_runs : OfRuns FewLive
few_in_runs limits contents h may run = record { few = (few limits contents h may run).few }
