use Rattle.std.proofs.Common.{slice_set, sym, ap, ◌∙◌}
use Rattle.hc_record.specs.Lines.{sealed_record, kind_byte, total_text}
use Rattle.hc_record.proofs.Totals.{sealed-spelling, put_mid-replace_range}
use Rattle.hc_record.proofs.seal.seal_record.Goals as goal

pub returns-clause-bytes : goal.returns-clause-bytes
returns-clause-bytes c = rw (c.copy_from_slice.ensures.after, c.total_text.ensures, c.byte.ensures)
    (put_mid-replace_range (slice_set c.args.text.now 9 (kind_byte c.args.kind)) (total_text c.args.total))

pub returns-clause-head : goal.returns-clause-head
returns-clause-head c = λ version head own is. (
  record {
    known_status = own.known_status;
    small_total = c.requires.small;
    small_requested = own.small_requested;
    small_answered = own.small_answered;
    own_joining = own.own_joining;
    vary_list = own.vary_list;
    list = own.list;
    within_limits = own.within_limits;
  },
  sym (sealed-spelling c.args.kind c.args.total version head own.small_total)
      ∙ (ap (sealed_record c.args.kind c.args.total) is ∙ sym (returns-clause-bytes c)),
)
