use Rattle.std.proofs.Common.{sym, ◌∙◌}
use Rattle.hc_text.proofs.Basics.{not_false}
use Rattle.hc_app.proofs.Wording.{is_generation, too_many}
use Rattle.hc_app.proofs.command.generation_by.Goals as goal

pub returns-then-count-gt-MOST_ROUNDS-clause-none : goal.returns-then-count-gt-MOST_ROUNDS-clause-none
returns-then-count-gt-MOST_ROUNDS-clause-none c =
    too_many _ _ _ c.in-Some-read_plain.count (rw c.as_bytes-2.ensures.value at c.in-Some-read_plain.ensures.found) c.if-count-gt-MOST_ROUNDS.true

pub returns-clause-found : goal.returns-clause-found
returns-clause-found c =
    is_generation _ _ _ c.in-Some.seed c.in-Some-read_plain.count (not_false _ (rw c.as_str.ensures.value at (sym c.ne.ensures ∙ c.if-ne.false)))
    (rw c.as_bytes.ensures.value at c.in-Some.ensures.found) (rw c.as_bytes-2.ensures.value at c.in-Some-read_plain.ensures.found)
    c.if-count-gt-MOST_ROUNDS.false
