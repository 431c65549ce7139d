use Rattle.std.{proofs.{Common.{◌≡◌, [], drop, ◌∙◌, ap}, lemmas.List.{drop_all}}, specs.Prelude.{codes}}
use Rattle.hc_fields.specs.FirstValues.{elements_in}
use Rattle.hc_head.specs.{Codings.{is_coding}, Held.{fields_in}}
use Rattle.hc_head.proofs.CodingFolds.{coding_next, coding_is}
use Rattle.hc_head.proofs.lengths.is_chunked.Goals as goal

pub loop-header-preserved : goal.loop-header-preserved
loop-header-preserved c =
    coding_next c.loop-header.coding c.coding_with-coding.result _ c.args.headers.now c.loop-header.header-index _ c.loop-header-test.true
    c.coding_with-coding.ensures c.loop-header.invariant

pub returns : goal.returns
returns c =
    let headers = c.args.headers.now in
    let none : fields_in (drop c.loop-header.header-index headers) ≡ [] = ap fields_in (drop_all c.loop-header.header-index headers c.loop-header-test.false) in
    let same = rw none at c.loop-header.invariant in
    c.is_chunked.ensures ∙ ap is_coding same ∙ coding_is (elements_in (codes "transfer-encoding") (fields_in headers))
