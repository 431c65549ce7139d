use Rattle.std.proofs.Common.{◌≡◌, ◌-◌, length, take, arith, ap, sym, ◌∙◌, subst}
use Rattle.hc_folder.specs.ImageFiles.{IsNoImageFile, IsImageFileOf, image_file, image_sum}
use Rattle.hc_folder.proofs.Ends.{length-image_file, image_first}
use Rattle.hc_folder.proofs.image.read_image_file.Goals as goal

pub returns-in_err-ending : goal.returns-in_err-ending
returns-in_err-ending c = rw c.from_residual.ensures (subst IsNoImageFile c.as_slice.ensures.value c.in_err-ending.ensures)

pub overflow_sub-end : goal.overflow_sub-end
overflow_sub-end c =
    let has = subst (λ file. IsImageFileOf file c.in_ok-ending.ending.0 c.in_ok-ending.ending.1) c.as_slice.ensures.value c.in_ok-ending.ensures in
    let same = ap length has.file_is in
    omega (arith, same, length-image_file has.image c.in_ok-ending.ending.0)

pub returns : goal.returns
returns c =
    let has = subst (λ file. IsImageFileOf file c.in_ok-ending.ending.0 c.in_ok-ending.ending.1) c.as_slice.ensures.value c.in_ok-ending.ensures in
    let len = c.len-end.ensures in
    let sized : c.len-end.result - 24 ≡ length c.args.file.items - 24 = omega (arith, len) in
    let whole = image_first c.args.file.items has.image c.in_ok-ending.ending.0 has.file_is in
    let first = c.truncate.ensures.items ∙ ap (λ k. take k c.args.file.items) sized ∙ whole in
    record {
      small = has.small;
      file_is = has.file_is ∙ ap (λ l. image_file l c.in_ok-ending.ending.0) (sym first);
      sum_is = has.sum_is ∙ ap (λ l. image_sum l c.in_ok-ending.ending.0) (sym first);
    }
