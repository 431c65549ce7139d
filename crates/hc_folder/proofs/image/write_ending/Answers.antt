use Rattle.std.proofs.Common.{◌≡◌, ◌++◌, ◌∙◌, ap}
use Rattle.md5.specs.Md5.{md5}
use Rattle.hc_folder.specs.ImageFiles.{numbered, image_sum}
use Rattle.hc_folder.proofs.image.write_ending.Goals as goal

pub returns-clause-ok : goal.returns-clause-ok
unfolding image_sum
returns-clause-ok c =
    let body : c.append.new.to.items ≡ numbered c.args.image.now.items c.args.number =
    c.in_ok-append.ensures.ok ∙ ap (λ l. c.args.image.now.items ++ l) c.bytes_of-bytes.ensures in
    let sum : c.sum_of-sum.result ≡ md5 (numbered c.args.image.now.items c.args.number) = c.sum_of-sum.ensures ∙ ap md5 (c.as_slice.ensures.value ∙ body) in
    c.in_ok-append-2.ensures.ok ∙ (λ i. body i ++ sum i)

pub returns-clause-sum : goal.returns-clause-sum
unfolding image_sum
returns-clause-sum c =
    let body : c.append.new.to.items ≡ numbered c.args.image.now.items c.args.number =
    c.in_ok-append.ensures.ok ∙ ap (λ l. c.args.image.now.items ++ l) c.bytes_of-bytes.ensures in
    c.sum_of-sum.ensures ∙ ap md5 (c.as_slice.ensures.value ∙ body)
