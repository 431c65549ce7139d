use Rattle.std.{proofs.Common.{sym, subst, ◌∙◌, ap}, specs.Prelude.{codes}}
use Rattle.hc_fields.specs.FieldList.{IsWithinLimits, without}
use Rattle.hc_state.proofs.Varied.{kept_within_limits}
use Rattle.hc_state.proofs.founded.founded_head.Goals as goal

pub invariant_of-result : goal.invariant_of-result
invariant_of-result c =
    let kept = c.remove-2.ensures.left ∙
    ap (without (codes "content-length")) (c.remove.ensures.left ∙ ap (without (codes "content-range")) c.in_ok-fields.ensures) in
    record {
      strong = c.in_ok-joining.ensures.strong;
      own = record {
        known_status = c.requires.may.status;
        small_total = c.requires.total;
        small_requested = c.requires.requested;
        small_answered = c.requires.answered;
        own_joining = c.in_ok-joining.ensures.value;
        vary_list = c.len-varied.ensures.list;
        list = c.len-count.ensures.list;
        within_limits = subst IsWithinLimits (sym kept) (kept_within_limits c.args.response.now.fields c.requires.may.within_limits);
      };
    }
