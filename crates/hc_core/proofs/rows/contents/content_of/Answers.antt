use Rattle.std.{proofs.Common.{◌≡◌, Some, refl, ap, sym, ◌∙◌, subst}, specs.Option.{option_copied}}
use Rattle.hc_sparse.specs.Cells.{Cells, EndsBy}
use Rattle.hc_stored.specs.Entries.{shelf_of}
use Rattle.hc_effects.proofs.Vocabulary.{runs_from}
use Rattle.hc_core.proofs.ContentsReported.{cells_same}
use Rattle.hc_core.proofs.rows.contents.content_of.Goals as goal

pub returns-clause-item : goal.returns-clause-item
returns-clause-item g c =
    let e = cells_same (shelf_of c.args.entries.now) (shelf_of c.head.new.self) c.args.r c.in_ok-head.ensures.same in
    record {
      number = refl;
      key = sym c.key.ensures ∙ (ap option_copied c.unwrap.ensures ∙ ap Some (sym c.in_ok-key.ensures));
      head = c.in_ok-head.ensures.head;
      runs = λ n ends. subst (λ (h : Cells). EndsBy n h → c.in_ok-runs.runs ≡ runs_from h 0 n) e (c.in_ok-runs.ensures.runs n) ends;
    }
