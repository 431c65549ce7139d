use Rattle.std.proofs.{Common.{◌≡◌, ℕ, List, ◌++◌, ap, ◌∙◌, length}, lemmas.List.{append_assoc}}
use Rattle.hc_record.specs.{declared.version.Version.TheVariants.{Second}, Plain.{plain}, Record.{spelling}}
use Rattle.hc_sparse.specs.declared.run.Run.{Run}
use Rattle.hc_image.specs.Images.{item_line, runs_text}
use Rattle.hc_image.proofs.write.write_item.Goals as goal

pub returns : goal.returns
returns c =
    let old = c.args.to.now.items in
    let line = item_line c.args.item.now.key c.args.item.now.r (length c.args.item.now.runs) in
    let head = spelling Second (plain c.args.item.now.head) in
    let runs = runs_text c.args.item.now.runs in
    let is : c.write_record.new.to.items ≡ old ++ (line ++ head) =
    c.in_ok-write_record.ensures.ok
    ∙ (ap (λ (t : List ℕ). t ++ head) c.in_ok-write_item_line.ensures
    ∙ append_assoc old line head) in
    c.in_ok-write_runs.ensures
    ∙ (ap (λ (rs : List Run). c.write_record.new.to.items ++ runs_text rs) c.as_slice.ensures
    ∙ (ap (λ (t : List ℕ). t ++ runs) is
    ∙ (append_assoc old (line ++ head) runs
    ∙ ap (λ (t : List ℕ). old ++ t) (append_assoc line head runs))))
