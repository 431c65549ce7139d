use Rattle.std.proofs.{Common.{◌≡◌, ℕ, List, ◌++◌, ap, ◌∙◌, length}, lemmas.{List.{append_assoc}, Result.{err_from_is_err_and}}}
use Rattle.hc_fields.proofs.LineLemmas.{begins_with}
use Rattle.hc_record.specs.{declared.version.Version.TheVariants.{Second}, Lines.{version_line, seal_line}, Plain.{plain}, Record.{head_numbers}}
use Rattle.hc_record.proofs.write.write_parts.Goals as goal

pub returns-in_err-write_numbers-clause-err : goal.returns-in_err-write_numbers-clause-err
returns-in_err-write_numbers-clause-err c =
    let old = c.args.to.now in
    let was = c.write_seal.new.to in
    let seal = seal_line c.args.head.now.kind c.args.head.now.total in
    let more = version_line Second ++ seal in
    let is : was.items ≡ old.items ++ more =
    c.in_ok-write_seal.ensures.ok
    ∙ (ap (λ (t : List ℕ). t ++ seal) c.in_ok-extend_from_slice.ensures.items
    ∙ append_assoc old.items (version_line Second) seal) in
    let kept = begins_with old.items more c.write_numbers.new.to.items old.len was.len old.ok.0 (c.in_err-write_numbers.ensures.err ∙ is)
    (was.ok.0 ∙ ap length is) in
    let p = err_from_is_err_and c.from_residual-in_err-write_numbers.result c.from_residual-in_err-write_numbers.ensures.1 in rw p.1 kept

pub returns-in_err-write_tag_line-clause-err : goal.returns-in_err-write_tag_line-clause-err
returns-in_err-write_tag_line-clause-err c =
    let old = c.args.to.now in
    let was = c.write_numbers.new.to in
    let seal = seal_line c.args.head.now.kind c.args.head.now.total in
    let numbers = head_numbers (plain c.args.head.now) in
    let more = (version_line Second ++ seal) ++ numbers in
    let is : was.items ≡ old.items ++ more =
    c.in_ok-write_numbers.ensures.ok
    ∙ (ap (λ (t : List ℕ). t ++ numbers) (c.in_ok-write_seal.ensures.ok
    ∙ (ap (λ (t : List ℕ). t ++ seal) c.in_ok-extend_from_slice.ensures.items
    ∙ append_assoc old.items (version_line Second) seal))
    ∙ append_assoc old.items (version_line Second ++ seal) numbers) in
    let kept = begins_with old.items more c.write_tag_line.new.to.items old.len was.len old.ok.0 (c.in_err-write_tag_line.ensures.err ∙ is)
    (was.ok.0 ∙ ap length is) in
    let p = err_from_is_err_and c.from_residual-in_err-write_tag_line.result c.from_residual-in_err-write_tag_line.ensures.1 in rw p.1 kept
