use Rattle.std.proofs.{Common.{◌≡◌, ℕ, ◌∙◌, length, get_or, take, sym, ap, subst, arith}, lemmas.List.Sums.{prefix_len-le-length}}
use Rattle.hc_etag.specs.Etags.{is_etagc, IsOpaque}
use Rattle.hc_etag.proofs.EtagLemmas.{opaque_here, IsOpaque-leading}
use Rattle.hc_etag.proofs.leading.leading_opaque.Goals as goal

pub returns-then-len-inside-clause-none : goal.returns-then-len-inside-clause-none
returns-then-len-inside-clause-none c = λ opaque rest h e.
    let here = opaque_here c.in_ok-first.first.now c.in_ok-first.inside.now opaque rest h (sym c.in_ok-first.ensures.cases.0 ∙ e) in
    absurd (omega arith)

pub bounds-inside-len : goal.bounds-inside-len
bounds-inside-len c = omega (arith, prefix_len-le-length is_etagc c.in_ok-first.inside.now)

pub returns-then-inside-len-ne34-clause-none : goal.returns-then-inside-len-ne34-clause-none
returns-then-inside-len-ne34-clause-none c = λ opaque rest h e.
    let here = opaque_here c.in_ok-first.first.now c.in_ok-first.inside.now opaque rest h (sym c.in_ok-first.ensures.cases.0 ∙ e) in
    let same : c.opaque_len-len.result ≡ length opaque = omega arith in
    c.if-inside-len-ne34.true (ap (λ n. get_or c.in_ok-first.inside.now n 0) same ∙ here.2)

pub returns-clause-opaque : goal.returns-clause-opaque
returns-clause-opaque c =
    let P : ℕ → Type 0 = λ n. IsOpaque (take n c.in_ok-first.inside.now) in
    subst P (sym c.opaque_len-len.ensures) (IsOpaque-leading c.in_ok-first.inside.now)
