use Rattle.std.proofs.{Common.{sym, ◌∙◌}, lemmas.{Bool.Decides.{Decides-eqb}, Slice.Eq.{strip_prefix_is}}}
use Rattle.hc_image.proofs.cursor.Cursor.take_bytes.Goals as goal

pub returns-in_err-rest : goal.returns-in_err-rest
returns-in_err-rest c = rw c.from_residual.ensures (λ after same.
    let none = rw c.in_err-rest.was at
    (strip_prefix_is Decides-eqb c.self.inside.rest.now c.args.bytes.now c.strip_prefix.result c.strip_prefix.ensures.cases) in
    none after (c.self.view_is ∙ sym same))

pub returns : goal.returns
returns c =
    let some = rw c.in_ok-rest.was at
    (strip_prefix_is Decides-eqb c.self.inside.rest.now c.args.bytes.now c.strip_prefix.result c.strip_prefix.ensures.cases) in
    sym some ∙ c.self.view_is
