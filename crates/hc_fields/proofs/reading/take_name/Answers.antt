use Rattle.std.proofs.{Common.{ℕ, List, [], ◌∷◌, ◌++◌, take, ap, sym, ◌∙◌}, lemmas.{Bool.Decides.{Decides-eqb}, List.{take-append-drop}, Slice.Eq.{strip_prefix_is}}}
use Rattle.hc_fields.specs.Lines.{is_lower_byte}
use Rattle.hc_fields.proofs.ReadLemmas.{no_other, kind-position, behind-kind, colon_ends}
use Rattle.hc_fields.proofs.reading.take_name.Goals as goal

pub returns-in_err-end-clause-none : goal.returns-in_err-end-clause-none
returns-in_err-end-clause-none c = rw c.from_residual.ensures (λ start rest all.
    no_other is_lower_byte start (32 ∷ rest) c.args.text.now 58 (sym c.in_err-end.ensures) all colon_ends)

pub returns-in_err-rest-clause-none : goal.returns-in_err-rest-clause-none
returns-in_err-rest-clause-none c = rw c.from_residual-in_err-rest.ensures (λ start rest all is.
    let none = rw c.in_err-rest.was at
    (strip_prefix_is Decides-eqb c.split_at.result.1.now (58 ∷ 32 ∷ []) c.strip_prefix.result c.strip_prefix.ensures.cases) in
    let behind = behind-kind is_lower_byte start (32 ∷ rest) c.args.text.now 58 c.in_ok-end.end (sym c.in_ok-end.ensures) all colon_ends is in
    none rest (c.split_at.ensures.back ∙ behind))

pub returns-clause-found : goal.returns-clause-found
returns-clause-found c =
    let some = rw c.in_ok-rest.was at (strip_prefix_is Decides-eqb c.split_at.result.1.now (58 ∷ 32 ∷ []) c.strip_prefix.result c.strip_prefix.ensures.cases) in
    rw c.split_at.ensures.front (
      kind-position is_lower_byte c.args.text.now c.in_ok-end.end (sym c.in_ok-end.ensures),
      ap (λ (l : List ℕ). take c.in_ok-end.end c.args.text.now ++ l) (sym some ∙ c.split_at.ensures.back) ∙ take-append-drop c.in_ok-end.end c.args.text.now,
    )
