use Rattle.std.proofs.Common.{◌∙◌, arith}
use Rattle.hc_text.proofs.ElementLemmas.{first_element}
use Rattle.hc_text.proofs.list.next_item.Goals as goal

pub returns-clause-found : goal.returns-clause-found
returns-clause-found c =
    let text = c.args.text.now in
    let first = first_element text c.in_ok-start.start c.trimmed_end-end.result c.piece_end-stop.result c.min-next.result
    c.trimmed_end-end.ensures.bounds.0 c.trimmed_end-end.ensures.bounds.1 c.piece_end-stop.ensures.bounds.1 c.min-next.ensures
    c.in_ok-start.ensures.begins.0 c.piece_end-stop.ensures.piece c.piece_end-stop.ensures.ends c.trimmed_end-end.ensures.trimmed in
    record {
      after_from = c.in_ok-start.ensures.bounds.0;
      not_empty = c.trimmed_end-end.ensures.bounds.0;
      ends_before_next = omega arith;
      within = omega arith;
      behind = record {
        stop = c.piece_end-stop.result;
        bounds = (c.trimmed_end-end.ensures.bounds.1, c.piece_end-stop.ensures.bounds.1);
        blanks = c.trimmed_end-end.ensures.blanks;
        at_comma = c.piece_end-stop.ensures.ends;
        passed = omega (arith, c.min-next.ensures);
      };
      element = c.in_ok-start.ensures.skipped ∙ first;
    }
