-- What each start brings, each request that is kept has: few and short fields, and a target as its key.
use Rattle.std.{proofs.{Common.{◌≡◌, ℕ, List, [], ◌∷◌, ◌++◌, Bool, true, Some, ap, sym, ◌∙◌, arith}, lemmas.Bool.Decides.{nat_tests}}, specs.Prelude.{option_map, if◌then◌else◌}}
use Rattle.hc_effects.proofs.Vocabulary.{is_denied, Event, Request, Entry, Contents, History, each, first, if_accepted, request_in, HasFieldsWithinLimits, HasTarget, Consumer, IsHeadWithinLimits, tables, event}
use Rattle.hc_fields.specs.FieldList.{IsWithinLimits}
use Rattle.hc_target.specs.Targets.{is_target}
use Rattle.hc_model.specs.WithinLimits.{FieldsAreWithinLimits, RequestsStayWithinLimits, HeadsComeWithinLimits, StartsHaveTargets, RequestsStayForTargets}
use Rattle.hc_effects.proofs.ConsumerFilters.{requests_are}

-- REQUESTS

-- P of a request, where each event of a history is Q, and so a start has a request of which P holds
module _ (P : Request → Type 0) (Q : Event → Type 0) (R : History → Type 0)
    (of_start : (c : ℕ) (request : Request) → Q (event.Start c request) → P request) (of_entry : (e : Entry) (h : History) → R (e ∷ h) → R h × Q e.event) where
  -- of each of them
  abbrev Each : List Request → Type 0
  Each [] = Unit {0}
  Each (request ∷ rest) = P request × Each rest

  of_both : (xs ys : List Request) → Each xs → Each ys → Each (xs ++ ys)
  of_both [] ys first rest = rest
  of_both (x ∷ xs) ys first rest = (first.0, of_both xs ys first.1 rest)

  of_heard : (c : ℕ) (ev : Event) → Q ev → Each (request_in c ev)
  of_heard c ev holds = grind (arith, nat_tests)

  of_accepted : (b : Bool) (xs : List Request) → Each xs → Each (if b then [] else xs)
  of_accepted b xs holds = grind (arith, nat_tests)

  of_brought : (c : ℕ) (h : History) → R h → Each (each (λ e. if_accepted e (request_in c e.event)) h)
  of_brought c [] holds = tt
  of_brought c (e ∷ h) holds =
      let both = of_entry e h holds in
      of_both (each (λ e. if_accepted e (request_in c e.event)) h) (if_accepted e (request_in c e.event))
      (of_brought c h both.0) (of_accepted (is_denied e.acts) (request_in c e.event) (of_heard c e.event both.1))

  of_first : (xs : List Request) (request : Request) → Each xs → first xs ≡ Some request → P request
  of_first xs request holds is = grind (arith, nat_tests)

  of_consumers : (contents : Contents) (h : History) → R h → (c : ℕ) (k : Consumer) → (tables contents h).consumer c ≡ Some k → P k.request
  of_consumers contents h holds c k row =
      of_first (each (λ e. if_accepted e (request_in c e.event)) h) k.request (of_brought c h holds)
      (sym (requests_are contents h c) ∙ ap (option_map (λ (q : Consumer). q.request)) row)

pub requests_are_within_limits : RequestsStayWithinLimits
requests_are_within_limits contents h within_limits =
    of_consumers (λ request. IsWithinLimits request.fields) HasFieldsWithinLimits FieldsAreWithinLimits (λ c request few. few) (λ e h all. all) contents h
    within_limits

pub requests_are_for_targets : RequestsStayForTargets
requests_are_for_targets contents h starts =
    of_consumers (λ request. is_target request.key ≡ true) HasTarget StartsHaveTargets (λ c request target. target) (λ e h all. all) contents h starts

-- HEADS

head_within_limits : (ev : Event) → HasFieldsWithinLimits ev → IsHeadWithinLimits ev
head_within_limits ev within_limits = grind (arith, nat_tests)

pub heads_come_within_limits : HeadsComeWithinLimits
heads_come_within_limits [] within_limits = tt
heads_come_within_limits (e ∷ h) within_limits = (heads_come_within_limits h within_limits.0, head_within_limits e.event within_limits.1)
