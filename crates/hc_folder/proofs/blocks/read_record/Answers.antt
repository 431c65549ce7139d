use Rattle.std.proofs.Common.{length, ap, sym, subst, arith, length-append}
use Rattle.hc_folder.specs.Blocks.{IsReadTo}
use Rattle.hc_folder.specs.Records as records
use Rattle.hc_folder.proofs.{Many.{none_yet, one_more, read_first, read_on}, Taking.{length-block}, Unread.{unread_lacking}}
use Rattle.hc_folder.proofs.blocks.read_record.Goals as goal

pub turns-init : goal.turns-init
turns-init c =
    let empty = c.new-text.ensures.items in
    let size = ap length empty in
    record {
      read = subst (λ text. IsReadTo c.args.sum c.args.file.now text c.args.sum c.args.file.now) (sym empty) (none_yet c.args.sum c.args.file.now);
      shorter = omega (arith, size);
    }

pub turns-preserved : goal.turns-preserved
turns-preserved c =
    let block = c.in-Whole.block in
    let taken = c.in-Whole.ensures in
    let sizes = ap length taken.0 in
    record {
      read = one_more c.args.sum c.args.file.now c.turns.text.items c.turns.sum c.turns.rest.now block.text.now _ block.sum block.rest.now
          c.turns.invariant.read taken.0 taken.1 taken.2 c.in_ok-extend_from_slice-in-Whole.ensures.items;
      shorter = (let grown = ap length c.in_ok-extend_from_slice-in-Whole.ensures.items in let before = c.turns.invariant.shorter in
          omega (arith, sizes, grown, before, length-append c.turns.text.items block.text.now, length-block c.turns.sum block.text.now block.rest.now));
    }

pub turns-smaller : goal.turns-smaller
turns-smaller c =
    let sizes = ap length c.in-Whole.ensures.0 in
    omega (arith, sizes, length-block c.turns.sum c.in-Whole.block.text.now c.in-Whole.block.rest.now)

pub returns-in_err-extend_from_slice-in-Whole-clause-none : goal.returns-in_err-extend_from_slice-in-Whole-clause-none
returns-in_err-extend_from_slice-in-Whole-clause-none c = unread_lacking c.args.sum c.args.file.now c.from_residual.result c.from_residual.ensures.1

pub returns-in-Cut-clause-taken : goal.returns-in-Cut-clause-taken
returns-in-Cut-clause-taken c = λ texts more shorts is.
    read_first c.args.sum c.args.file.now c.turns.text.items c.turns.sum c.turns.rest.now c.turns.invariant.read texts more shorts is

pub returns-in-Broken-clause-none : goal.returns-in-Broken-clause-none
returns-in-Broken-clause-none c =
    let before = c.turns.invariant.shorter in
    records.broken _ (record {
      text = c.turns.text.items;
      sum' = c.turns.sum;
      rest = c.turns.rest.now;
      read = c.turns.invariant.read;
      at_is = omega (arith, before);
      broken = c.in-Broken.ensures;
    })

pub returns-in-Broken-clause-taken : goal.returns-in-Broken-clause-taken
returns-in-Broken-clause-taken c = λ texts more shorts is.
    read_on c.args.sum c.args.file.now c.turns.text.items c.turns.sum c.turns.rest.now c.turns.invariant.read texts more shorts is c.in-Broken.ensures
