-- A round more of the generator: time doesn't go back, and what is made is small.
--
-- Each round has an action and each action a move, and `Fine` says this of a move. A start has a drawn request, and an
-- answer is that of the test origin, both within limits; the other moves make no fields (`action_fine`). An answer that
-- is brought, or a part of it, is short (`brought_short`). `made_fine` takes it from the move to what was made, and
-- `goes_on` joins both for a round. The contract of the generator's step reads off its parts.
use Rattle.std.{proofs.Common.{◌≡◌, ℕ, zero, suc, ◌+◌, ◌^◌, ◌<◌, ◌≤◌, List, length, Bool, true, false, Option, Some, None, refl, ap, sym, ◌∙◌, subst, arith}, specs.Prelude.{nat_lt, Result, Ok, Err, IfOk, is_err}}
use Rattle.hc_event.specs.{declared.event.Event.{Event}, WithinLimits.{IsEventWithinLimits}}
use Rattle.hc_text.specs.Sorted.{item_with}
use Rattle.hc_generate.specs.{declared.{action.Action.{Action}, exchange.{Exchange.{Exchange}, Brought.{Brought}, Owed.{Owed}}}, Actions.{action_of}, Draws.{draw_below, choice_of}, Rounds.{IsShort, IsShortIfMade, IsWithinLimitsIfMade, Move, Nothing, Makes, Answers, onward, start_move, polled_by, answered_by, answered_to, cancelled_by, faulted_by, by_action, round, IsMade, IsRound}, Sending.{Brings, number_of, origin_bytes, next_length}, States.{State}}
use Rattle.hc_generate.specs.declared.action.Action.TheVariants as action
use Rattle.hc_generate.specs.declared.exchange.Owed.TheVariants as owes
use Rattle.hc_generate.proofs.{LimitsKept.{within_limits_answer, within_limits_request}, Targets.{request_is_for_target}}

-- time doesn't go back, and what is made is small
abbrev Fine : State → Move → Type 0
Fine s (Nothing u) = s.moment ≤ u.moment
Fine s (Makes e u) = (s.moment ≤ u.moment) × IsShort e × IsEventWithinLimits e
Fine s (Answers x owed u) = s.moment ≤ u.moment

length-origin : (at n : ℕ) → length (origin_bytes at n) ≡ n
length-origin at zero = refl
length-origin at (suc n) = ap suc (length-origin (at + 1) n)

brought_short : (x : ℕ) (owed : Owed) (b : Brought) → Brings x owed b → IsShort b.event
brought_short x (owes.Answer request) b brings = subst (λ (z : Brought). IsShort z.event) (sym brings.2) tt
brought_short x (owes.Bytes at hi) b brings =
    let all = length-origin at (next_length at hi) in
    let short : length (origin_bytes at (next_length at hi)) ≤ 512 = omega arith in
    subst (λ (z : Brought). IsShort z.event) (sym brings) short

brought_within_limits : (x : ℕ) (owed : Owed) (b : Brought) → Brings x owed b → IsEventWithinLimits b.event
brought_within_limits x (owes.Answer request) b brings =
    subst (λ (z : Brought). IsEventWithinLimits z.event) (sym brings.2) (within_limits_answer request brings.0 brings.1)
brought_within_limits x (owes.Bytes at hi) b brings =
    let all = length-origin at (next_length at hi) in
    let short : length (origin_bytes at (next_length at hi)) ≤ 65536 = omega arith in
    subst (λ (z : Brought). IsEventWithinLimits z.event) (sym brings) short

pub record GoesOn (s u : State) (made : Option Event) : Type 0 where
  pub later : s.moment ≤ u.moment
  pub short : (e : Event) → made ≡ Some e → IsShort e
  pub within_limits : (e : Event) → made ≡ Some e → IsEventWithinLimits e

some_event : (e f : Event) → Some e ≡ Some f → e ≡ f
some_event e f is = cc

none_event : (e : Event) → None ≡ Some e → ⊥
none_event e is = cc

made_fine : (s u : State) (m : Move) (made : Option Event) → Fine s m → IsMade m made u → GoesOn s u made
made_fine s u (Nothing v) made fine is = record {
  later = subst (λ (z : State). s.moment ≤ z.moment) (sym is.1) fine;
  short = λ e some. absurd (none_event e (sym is.0 ∙ some));
  within_limits = λ e some. absurd (none_event e (sym is.0 ∙ some));
}
made_fine s u (Makes f v) made fine is = record {
  later = subst (λ (z : State). s.moment ≤ z.moment) (sym is.1) fine.0;
  short = λ e some. subst (λ (z : Event). IsShort z) (some_event f e (sym is.0 ∙ some)) fine.1;
  within_limits = λ e some. subst (λ (z : Event). IsEventWithinLimits z) (some_event f e (sym is.0 ∙ some)) fine.2;
}
made_fine s u (Answers x owed v) made fine is = record {
  later = let same : u.moment ≡ v.moment = ap (λ (z : State). z.moment) is.3 in omega arith;
  short = λ e some. subst (λ (z : Event). IsShort z) (some_event is.0.event e (sym is.2 ∙ some)) (brought_short x owed is.0 is.1);
  within_limits = λ e some. subst (λ (z : Event). IsEventWithinLimits z) (some_event is.0.event e (sym is.2 ∙ some)) (brought_within_limits x owed is.0 is.1);
}

started_fine : (s : State) (b : Bool) → s.last + 1 < 2 ^ 62 → nat_lt (length s.live) 64 ≡ b → Fine s (start_move s)
started_fine s true small on = rw on (omega arith, tt, (small, request_is_for_target s.draws, within_limits_request s.draws))
started_fine s false small on = rw on (omega arith)

polled_fine : (s : State) (o : Option ℕ) → Fine s (polled_by o s)
polled_fine s None = omega arith
polled_fine s (Some c) = (omega arith, tt, tt)

to_fine : (s : State) (x : ℕ) (o : Option Exchange) → Fine s (answered_to x o (onward s))
to_fine s x None = omega arith
to_fine s x (Some e) = omega arith

answered_fine : (s : State) (o : Option ℕ) → Fine s (answered_by o s)
answered_fine s None = omega arith
answered_fine s (Some x) = to_fine s x (item_with number_of x s.exchanges)

cancelled_fine : (s : State) (o : Option ℕ) → Fine s (cancelled_by o s)
cancelled_fine s None = omega arith
cancelled_fine s (Some c) = (omega arith, tt, tt)

faulted_fine : (s : State) (o : Option ℕ) → Fine s (faulted_by o s)
faulted_fine s None = omega arith
faulted_fine s (Some x) = (omega arith, tt, tt)

action_fine : (wanted : List ℕ) (s : State) (a : Action) → s.last + 1 < 2 ^ 62 → Fine s (by_action a wanted s)
action_fine wanted s action.Start small = started_fine s (nat_lt (length s.live) 64) small refl
action_fine wanted s action.Poll small = polled_fine s (choice_of s.live s.draws)
action_fine wanted s action.Bring small = answered_fine s (choice_of wanted s.draws)
action_fine wanted s action.Cancel small = cancelled_fine s (choice_of s.live s.draws)
action_fine wanted s action.Wait small = omega arith
action_fine wanted s action.Fault small = faulted_fine s (choice_of wanted s.draws)
action_fine wanted s action.Doom small = (omega arith, tt, tt)

pub goes_on : (wanted : List ℕ) (s u : State) (made : Option Event) → s.last + 1 < 2 ^ 62 → IsRound wanted s made u → GoesOn s u made
goes_on wanted s u made small is =
    let after = made_fine (onward s) u (round wanted s) made (action_fine wanted (onward s) (action_of (draw_below 100 s.draws)) small) is in
    record { later = after.later; short = after.short; within_limits = after.within_limits }

pub short_made : {E : Type 0} (wanted : List ℕ) (s u : State) (r : Result (Option Event) E) → s.last + 1 < 2 ^ 62 →
    IfOk r (λ made. IsRound wanted s made u) → IfOk r IsShortIfMade
short_made wanted s u (Ok (Some e)) small is = (goes_on wanted s u (Some e) small is).short e refl
short_made wanted s u _ small is = tt

pub within_limits_made : {E : Type 0} (wanted : List ℕ) (s u : State) (r : Result (Option Event) E) → s.last + 1 < 2 ^ 62 →
    IfOk r (λ made. IsRound wanted s made u) → IfOk r IsWithinLimitsIfMade
within_limits_made wanted s u (Ok (Some e)) small is = (goes_on wanted s u (Some e) small is).within_limits e refl
within_limits_made wanted s u _ small is = tt

pub later_made : {E : Type 0} (wanted : List ℕ) (s u : State) (r : Result (Option Event) E) → s.last + 1 < 2 ^ 62 → is_err r ≡ false →
    IfOk r (λ made. IsRound wanted s made u) → s.moment ≤ u.moment
later_made wanted s u (Err e) small ok is = absurd (let never : true ≡ false = ok in cc)
later_made wanted s u (Ok made) small ok is = (goes_on wanted s u made small is).later
