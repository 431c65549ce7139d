use Rattle.std.{proofs.Common.{◌≡◌, ◌+◌, ◌<◌, List, ℕ, Some, None, nat_eq, length, get_or, ap, sym, ◌∙◌, subst}, specs.{Prelude.{option_map}, HashMap.{get}, Option.{option_copied}}}
use Rattle.hc_text.proofs.Basics.{none_or as none_is}
use Rattle.hc_entry.specs.Used.{moved_if_member}
use Rattle.hc_stored.specs.{Grouped.{group_of}, Views.{bound_in}}
use Rattle.hc_state.proofs.Maps.{lent}
use Rattle.hc_on_leave.proofs.{ReportOffsets.{ReportedSoFar, reported_none, reported_next, reported_skips}, lose.report_offsets.Goals.{in-Some, in_default}}
use Rattle.hc_on_leave.proofs.lose.report_offsets.Goals as goal

pub loop-i-init : goal.loop-i-init
loop-i-init g c = reported_none c.args.entries.now c.args.consumers.now c.args.r

pub loop-i-preserved : goal.loop-i-preserved
loop-i-preserved g c =
    let old = c.args.entries.now in
    let mid = c.loop-i.entries in
    let consumers = c.args.consumers.now in
    let r = c.args.r in
    let i = c.loop-i.i in
    let cs = c.bound.result.now in
    let before = c.loop-i.invariant in
    let within = subst (λ (xs : List ℕ). i < length xs) c.bound-i-end.ensures c.loop-i-test.true in
    let bound_is = c.bound.ensures ∙ ap bound_in (before.stays.kept r) in
    elim c.match-get.branch [
      | in-Some w ↦
          let k = w.in-Some.consumer.now in
          let offset = w.saturating_add-offset.result in
          let at = subst (λ (xs : List ℕ). get nat_eq consumers (get_or xs i 0) ≡ Some k) bound_is
          (lent c.get.result (get nat_eq consumers (get_or cs i 0)) w.in-Some.consumer c.get.ensures.value w.in-Some.is) in
          let reported = subst (λ (xs : List ℕ). group_of w.set_offset.new.self r ≡ option_map (moved_if_member (get_or xs i 0) offset) (group_of mid r))
          bound_is w.set_offset.ensures.group in
          subst (λ z. ReportedSoFar old z consumers r (i + 1)) (sym w.entries-is)
          (reported_next old consumers r i 0 mid w.set_offset.new.self within
          before w.set_offset.ensures.stays w.set_offset.ensures.faults k offset at w.saturating_add-offset.ensures reported)
      | in_default w ↦
          let gone = subst (λ (xs : List ℕ). get nat_eq consumers (get_or xs i 0) ≡ None) bound_is
          (sym c.get.ensures.value ∙ ap option_copied (none_is c.get.result w.in_default.not-Some)) in
          subst (λ z. ReportedSoFar old z consumers r (i + 1)) (sym w.entries-is) (reported_skips old consumers r i 0 mid within before gone)
    ]
