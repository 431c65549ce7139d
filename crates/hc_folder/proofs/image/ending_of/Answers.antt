use Rattle.std.proofs.Common.{◌≡◌, length, arith}
use Rattle.hc_folder.proofs.Ends.{too_short, right_ending, wrong_sum, wrong_number}
use Rattle.hc_folder.proofs.image.ending_of.Goals as goal

pub returns-then-file-lt24 : goal.returns-then-file-lt24
returns-then-file-lt24 c = too_short c.args.file.now c.if-file-lt24.true

pub returns-then-number-ge-NUMBERS : goal.returns-then-number-ge-NUMBERS
returns-then-number-ge-NUMBERS c =
    let sixteen : length c.split_at.result.1.now ≡ 16 = omega (arith, c.split_at.ensures.back_len) in
    let eight : length c.split_at-2.result.1.now ≡ 8 = omega (arith, c.split_at-2.ensures.back_len) in
    wrong_number c.args.file.now c.split_at.result.0.now c.split_at-2.result.0.now c.split_at-2.result.1.now c.split_at.result.1.now c.number_in-number.result
    c.split_at.ensures.by_index.0 c.split_at-2.ensures.by_index.0 sixteen eight c.number_in-number.ensures.bytes c.number_in-number.ensures.small
    c.if-number-ge-NUMBERS.true

pub returns-then-right : goal.returns-then-right
returns-then-right c =
    let sixteen : length c.split_at.result.1.now ≡ 16 = omega (arith, c.split_at.ensures.back_len) in
    let eight : length c.split_at-2.result.1.now ≡ 8 = omega (arith, c.split_at-2.ensures.back_len) in
    right_ending c.args.file.now c.split_at.result.0.now c.split_at-2.result.0.now c.split_at-2.result.1.now c.split_at.result.1.now c.number_in-number.result
    c.split_at.ensures.by_index.0 c.split_at-2.ensures.by_index.0 sixteen eight c.number_in-number.ensures.bytes c.sum_of-due.result c.sum_of-due.ensures
    (c.is_sum-right.ensures.yes c.if-right.true) c.if-number-ge-NUMBERS.false

pub returns-else-right : goal.returns-else-right
returns-else-right c =
    let sixteen : length c.split_at.result.1.now ≡ 16 = omega (arith, c.split_at.ensures.back_len) in
    let eight : length c.split_at-2.result.1.now ≡ 8 = omega (arith, c.split_at-2.ensures.back_len) in
    wrong_sum c.args.file.now c.split_at.result.0.now c.split_at-2.result.0.now c.split_at-2.result.1.now c.split_at.result.1.now c.number_in-number.result
    c.split_at.ensures.by_index.0 c.split_at-2.ensures.by_index.0 sixteen eight c.number_in-number.ensures.bytes c.sum_of-due.result c.sum_of-due.ensures
    (c.is_sum-right.ensures.no c.if-right.false)
