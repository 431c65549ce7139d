use Rattle.std.proofs.Common.{arith, sym, ◌∙◌, length}
use Rattle.hc_record.proofs.Once.{numbers_apart, ended_once}
use Rattle.hc_image.proofs.Once.{behind, numbers_small}
use Rattle.hc_image.proofs.record.take_counts.Goals as goal

pub returns-in_err-_status : goal.returns-in_err-_status
returns-in_err-_status c = rw c.from_residual.ensures (λ head after own same.
    let small = numbers_small head own in
    c.in_err-_status.ensures head.status _ small.status
    (sym (numbers_apart head.status head.requested head.answered (length head.vary_fields) (length head.fields) after) ∙ same))

pub returns-in_err-_requested : goal.returns-in_err-_requested
returns-in_err-_requested c = rw c.from_residual-in_err-_requested.ensures (λ head after own same.
    let small = numbers_small head own in
    let apart = sym (numbers_apart head.status head.requested head.answered (length head.vary_fields) (length head.fields) after) ∙ same in
    let n1 = behind 32 head.status c.in_ok-_status._status _ _ _ (omega arith) small.status c.in_ok-_status.ensures.0 apart c.in_ok-_status.ensures.1 in
    c.in_err-_requested.ensures head.requested _ small.requested n1)

pub returns-in_err-_answered : goal.returns-in_err-_answered
returns-in_err-_answered c = rw c.from_residual-in_err-_answered.ensures (λ head after own same.
    let small = numbers_small head own in
    let apart = sym (numbers_apart head.status head.requested head.answered (length head.vary_fields) (length head.fields) after) ∙ same in
    let n1 = behind 32 head.status c.in_ok-_status._status _ _ _ (omega arith) small.status c.in_ok-_status.ensures.0 apart c.in_ok-_status.ensures.1 in
    let n2 = behind 32 head.requested c.in_ok-_requested._requested _ _ _ (omega arith) small.requested c.in_ok-_requested.ensures.0 n1
    c.in_ok-_requested.ensures.1 in
    c.in_err-_answered.ensures head.answered _ small.answered n2)

pub returns-in_err-vary : goal.returns-in_err-vary
returns-in_err-vary c = rw c.from_residual-in_err-vary.ensures (λ head after own same.
    let small = numbers_small head own in
    let apart = sym (numbers_apart head.status head.requested head.answered (length head.vary_fields) (length head.fields) after) ∙ same in
    let n1 = behind 32 head.status c.in_ok-_status._status _ _ _ (omega arith) small.status c.in_ok-_status.ensures.0 apart c.in_ok-_status.ensures.1 in
    let n2 = behind 32 head.requested c.in_ok-_requested._requested _ _ _ (omega arith) small.requested c.in_ok-_requested.ensures.0 n1
    c.in_ok-_requested.ensures.1 in
    let n3 = behind 32 head.answered c.in_ok-_answered._answered _ _ _ (omega arith) small.answered c.in_ok-_answered.ensures.0 n2
    c.in_ok-_answered.ensures.1 in
    c.in_err-vary.ensures (length head.vary_fields) _ small.vary_count n3)

pub returns-in_err-fields : goal.returns-in_err-fields
returns-in_err-fields c = rw c.from_residual-in_err-fields.ensures (λ head after own same.
    let small = numbers_small head own in
    let apart = sym (numbers_apart head.status head.requested head.answered (length head.vary_fields) (length head.fields) after) ∙ same in
    let n1 = behind 32 head.status c.in_ok-_status._status _ _ _ (omega arith) small.status c.in_ok-_status.ensures.0 apart c.in_ok-_status.ensures.1 in
    let n2 = behind 32 head.requested c.in_ok-_requested._requested _ _ _ (omega arith) small.requested c.in_ok-_requested.ensures.0 n1
    c.in_ok-_requested.ensures.1 in
    let n3 = behind 32 head.answered c.in_ok-_answered._answered _ _ _ (omega arith) small.answered c.in_ok-_answered.ensures.0 n2
    c.in_ok-_answered.ensures.1 in
    let n4 = behind 32 (length head.vary_fields) c.in_ok-vary.vary _ _ _ (omega arith) small.vary_count c.in_ok-vary.ensures.0 n3 c.in_ok-vary.ensures.1 in
    c.in_err-fields.ensures (length head.fields) _ small.count n4)

pub returns : goal.returns
returns c = λ head after own same.
    let small = numbers_small head own in
    let apart = sym (numbers_apart head.status head.requested head.answered (length head.vary_fields) (length head.fields) after) ∙ same in
    let n1 = behind 32 head.status c.in_ok-_status._status _ _ _ (omega arith) small.status c.in_ok-_status.ensures.0 apart c.in_ok-_status.ensures.1 in
    let n2 = behind 32 head.requested c.in_ok-_requested._requested _ _ _ (omega arith) small.requested c.in_ok-_requested.ensures.0 n1
    c.in_ok-_requested.ensures.1 in
    let n3 = behind 32 head.answered c.in_ok-_answered._answered _ _ _ (omega arith) small.answered c.in_ok-_answered.ensures.0 n2
    c.in_ok-_answered.ensures.1 in
    let vary = ended_once 32 (length head.vary_fields) c.in_ok-vary.vary _ _ (omega arith) small.vary_count c.in_ok-vary.ensures.0
    (n3 ∙ sym c.in_ok-vary.ensures.1) in
    let fields = ended_once 10 (length head.fields) c.in_ok-fields.fields _ _ (omega arith) small.count c.in_ok-fields.ensures.0
    (vary.1 ∙ sym c.in_ok-fields.ensures.1) in
    (record { vary = sym vary.0; fields = sym fields.0 }, sym fields.1)
