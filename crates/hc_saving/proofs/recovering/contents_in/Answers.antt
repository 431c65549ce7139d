use Rattle.std.proofs.Common.{ℕ, List, take, subst, arith}
use Rattle.hc_contents.specs.PlainContents.{plain_contents}
use Rattle.hc_image.specs.{Readings.{BeginsWithNone}, Spelled.{SpellsImage}}
use Rattle.hc_saving.specs.Recovers as recovers
use Rattle.hc_saving.proofs.Recovered.{none_begun, none_within, unread_lacking}
use Rattle.hc_saving.proofs.recovering.contents_in.Goals as goal

pub returns-in_err-read-clause-none : goal.returns-in_err-read-clause-none
returns-in_err-read-clause-none c = unread_lacking (recovers.bytes_of c.args.image) c.from_residual.result c.from_residual.ensures.1

pub returns-in_default-2-clause-none : goal.returns-in_default-2-clause-none
returns-in_default-2-clause-none c =
    rw c.in-Some.is (recovers.none
    (none_begun c.in-Some.image.items (subst BeginsWithNone c.as_slice.ensures.value (rw c.in_default-2.is at c.in_ok-read.ensures.none))))

pub returns-then-read-len-clause-none : goal.returns-then-read-len-clause-none
returns-then-read-len-clause-none c =
    let found = rw c.in-Some-2.is at c.in_ok-read.ensures.found in
    let used = c.in-Some-2.read.used in
    let less = c.if-read-len.true in
    let len = c.len.ensures in
    rw c.in-Some.is (recovers.none (none_within c.in-Some.image.items used (plain_contents c.in-Some-2.read.contents)
    (subst (λ (l : List ℕ). SpellsImage (take used l) (plain_contents c.in-Some-2.read.contents)) c.as_slice.ensures.value found.spells)
    (omega (arith, less, len))))
