-- Acts that are handed out, one after another.
use Rattle.std.{proofs.{Common.{◌≡◌, List, [], ◌∷◌, ◌++◌, Option, Some, None, refl, sym, ap, ◌∙◌, subst}, lemmas.List.{append-nil, reverse-append}}, specs.{Prelude.{reverse, IfNone, MatchOption}, Option.{option_to_list}, Iterator.{Yields}}}
use Rattle.hc_event.specs.{declared.{act.Act.{Act}, drain.Drain.{Drain}}, Drain.{left_of, Steps, KeepsRoom, KeepsAlong}}

-- the last of a list stands first in its reverse
pub last_first : (old new : List Act) (last : Option Act) → old ≡ new ++ option_to_list last → IfNone last (old ≡ [])
    → MatchOption last ((reverse old ≡ []) × (reverse new ≡ [])) (λ act. reverse old ≡ act ∷ reverse new)
last_first old new None is none =
    let same : new ≡ [] = sym (append-nil new) ∙ sym is ∙ none in
    (ap reverse none, ap reverse same)
last_first old new (Some act) is none = ap reverse is ∙ reverse-append new (act ∷ [])

-- what stays
pub keeps_along : (first : Drain) → KeepsAlong first
keeps_along first [] later run = subst (KeepsRoom first) run (refl, refl)
keeps_along first (act ∷ acts) later run =
    let step = run.1.1 in
    let rest = keeps_along run.0 acts later run.2 in
    (rest.0 ∙ step.0, rest.1 ∙ step.1)

-- what was handed out stands before what is still to come
pub all_before : (first later : Drain) (acts : List Act) → Yields Steps first acts later → left_of first ≡ acts ++ left_of later
all_before first later [] run = ap left_of run
all_before first later (act ∷ acts) run = run.1.0 ∙ ap (λ (rest : List Act). act ∷ rest) (all_before run.0 later acts run.2)
