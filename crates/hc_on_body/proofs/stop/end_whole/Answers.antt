use Rattle.std.{proofs.Common.{◌≡◌, ℕ, ◌^◌, None, refl, ap, ◌∙◌, subst}, specs.Prelude.{is_some}}
use Rattle.hc_text.proofs.Basics.{same_some as same_row}
use Rattle.hc_effects.proofs.Vocabulary.{act_list, promised_bytes}
use Rattle.hc_stored.specs.{Entries.{shelf_of}, Views.{bound_in}}
use Rattle.hc_text.specs.Sorted.{itself, has}
use Rattle.hc_effects.proofs.LettingGo.{may_let_go}
use Rattle.hc_state.specs.{Changes.{ChangesAmong}, Stopped.{SealedWhole}}
use Rattle.hc_txn.specs.Transactions.{with_end}
use Rattle.hc_state.proofs.{Maps.{merely_true, merely_below}, Words.{few_received}}
use Rattle.hc_on_body.proofs.{OpenViews.{viewed}, WholeAnswers.{past_answered, whole_answered, brought_row, unbrought, brought_kept, delivered_short, nobody_alone, own_family}}
use Rattle.hc_on_body.proofs.stop.end_whole.Goals as goal

pub seal_whole-requires-clause-there : goal.seal_whole-requires-clause-there
seal_whole-requires-clause-there g c =
    let r = c.args.rows.now in
    let x = c.args.x in
    let q = c.in-Some.r in
    merely_true (is_some ((shelf_of r.entries).kept q)) c.requires.stands (λ s.
    let facts = s.facts in
    let seen = viewed r s.t x c.view.result c.unwrap-view.result s.rows c.view.ensures c.unwrap-view.ensures in
    brought_kept r s.t facts s.rows x seen.w seen.row seen.is_open q c.brought.result c.brought.ensures c.in-Some.is)

pub seal_whole-requires-clause-short : goal.seal_whole-requires-clause-short
seal_whole-requires-clause-short g c =
    let r = c.args.rows.now in
    let x = c.args.x in
    merely_below c.unwrap-view.result.delivered (2 ^ 62) c.requires.stands (λ s.
    let facts = s.facts in
    let seen = viewed r s.t x c.view.result c.unwrap-view.result s.rows c.view.ensures c.unwrap-view.ensures in
    delivered_short r s.t facts s.rows x seen.w seen.row seen.is_open (few_received s.received) c.unwrap-view.result.delivered seen.delivered)

pub returns-in-None-clause-answers : goal.returns-in-None-clause-answers
returns-in-None-clause-answers g c = λ limits t facts stands accepts reports.
    let r = c.args.rows.now in
    let x = c.args.x in
    let view = c.unwrap-view.result in
    let seen = viewed r t x c.view.result view stands c.view.ensures c.unwrap-view.ensures in
    let unreported : promised_bytes seen.w ≡ None = ap (λ z. promised_bytes z) (same_row (t.exchange x) seen.w reports.w seen.row reports.row) ∙
    reports.unreported in
    past_answered limits t facts c.args.now x seen.w seen.row unreported accepts (shelf_of r.entries).faults r _ (act_list c.args.out.now) view.c view.delivered
    (unbrought r t facts stands x seen.w seen.row seen.is_open c.brought.result c.brought.ensures c.in-None.is) seen.delivered seen.c_is stands
    refl refl refl c.close.ensures c.know_end.ensures

pub returns-in-Some-clause-answers : goal.returns-in-Some-clause-answers
returns-in-Some-clause-answers g c = λ limits t facts stands accepts reports.
    let r = c.args.rows.now in
    let x = c.args.x in
    let q = c.in-Some.r in
    let view = c.unwrap-view.result in
    let mid = c.seal_whole.new.rows in
    let seen = viewed r t x c.view.result view stands c.view.ensures c.unwrap-view.ensures in
    let unreported : promised_bytes seen.w ≡ None = ap (λ z. promised_bytes z) (same_row (t.exchange x) seen.w reports.w seen.row reports.row) ∙
    reports.unreported in
    let b = brought_row r t facts stands x seen.w seen.row seen.is_open q c.brought.result c.brought.ensures c.in-Some.is in
    let one : q ≡ x = b.2 ∙ own_family limits t facts c.args.now x seen.w seen.row unreported accepts b.0 b.1 in
    let there_q = ap t.representation b.2 ∙ b.1 in
    let sealed = c.seal_whole.ensures.sealed _ t b.0 (may_let_go t facts.law) there_q (λ stays. nobody_alone t facts.law q b.0 there_q stays) stands in
    whole_answered limits t facts c.args.now x seen.w seen.row unreported accepts b.0 b.1 (shelf_of r.entries).faults r mid _ stands
    (act_list c.args.out.now) (act_list c.seal_whole.new.out)
    refl refl refl c.close-in-Some.ensures
    (subst (λ (n : ℕ). ChangesAmong mid.consumers c.know_ends.new.consumers (λ d. has itself d (bound_in ((shelf_of mid.entries).kept x))) (with_end n))
    seen.delivered
    (subst (λ (n : ℕ). ChangesAmong mid.consumers c.know_ends.new.consumers (λ d. has itself d (bound_in ((shelf_of mid.entries).kept n)))
    (with_end view.delivered)) one
    (subst (λ xs. ChangesAmong mid.consumers c.know_ends.new.consumers (λ d. has itself d xs) (with_end view.delivered)) c.bound.ensures c.know_ends.ensures)))
    (subst (λ (n : ℕ). SealedWhole limits (shelf_of r.entries).faults r mid t (act_list c.args.out.now) (act_list c.seal_whole.new.out) c.args.now x b.0
    n) seen.delivered
    (subst (λ (n : ℕ). SealedWhole limits (shelf_of r.entries).faults r mid t (act_list c.args.out.now) (act_list c.seal_whole.new.out) c.args.now n b.0
    view.delivered) one sealed))
