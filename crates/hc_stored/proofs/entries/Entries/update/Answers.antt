use Rattle.std.proofs.Common.{refl, ap}
use Rattle.hc_record.specs.Plain.{plain}
use Rattle.hc_store.specs.Slots.{Slots, rewrites}
use Rattle.hc_stored.specs.{Kept.{with_head}, Rows.{summary_in, with_summary}}
use Rattle.hc_stored.proofs.{ShelfLemmas.{updated-shelved, updated-kept}, RowLemmas.{shelved-rewritten}, CurrentLemmas.{ordered-same}}
use Rattle.hc_stored.proofs.entries.Entries.update.Goals as goal

pub invariant_of-self-2-clause-shelved : goal.invariant_of-self-2-clause-shelved
invariant_of-self-2-clause-shelved g c =
    let e = c.args.self.now in
    let r = c.args.r in
    let summary = summary_in c.in_ok-summary.summary in
    let f = with_summary summary in
    let head = plain c.args.head.now in
    updated-shelved e.shelved r c.slot_in.result.n c.slot_in.ensures f (rewrites head) (λ a. refl) c.report_in.ensures
    (λ m. ap (λ (s : Slots). s m) c.in_ok-write_record.ensures.ok)
    (λ a b is h. shelved-rewritten head summary a b c.in_ok-summary.ensures h) (ordered-same e.shelved r f c.report_in.ensures (λ a. refl))

pub returns-clause-ok : goal.returns-clause-ok
returns-clause-ok g c =
    let e = c.args.self.now in
    let f = with_summary (summary_in c.in_ok-summary.summary) in
    let head = plain c.args.head.now in
    record {
      kept =
          updated-kept e.shelved c.args.r c.slot_in.result.n c.slot_in.ensures f (rewrites head) (λ a. refl) c.report_in.ensures
          (λ m. ap (λ (s : Slots). s m) c.in_ok-write_record.ensures.ok) (with_head head) (λ a b. refl);
      order = refl;
      limits = c.in_ok-write_record.ensures.limits;
    }
