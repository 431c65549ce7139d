-- What `validate` needs of its calls, and what it answers in each of its four cases.
--
-- What it was opened about may be current no more: then nothing is selected, and `start_anew` answers. Else it is kept,
-- so it may be asked whether the head selects it (`select`). Each answer starts from `current_still`: what is current
-- is what the exchange was opened about. Where it selects, `TurnHandler` answers; where it doesn't, `start_anew` does,
-- from rows that stay. At a fault the rows stay too, and `lose_asked` answers.
use Rattle.std.{proofs.Common.{◌≡◌, ℕ, true, false, Some, Ok, Err, refl, ap, sym, ◌∙◌, subst}, specs.Prelude.{is_some}}
use Rattle.hc_text.proofs.Basics.{none_or as none_is}
use Rattle.hc_effects.proofs.Vocabulary.{act_list, head_view, with_consumer, with_representation, with_refreshed_head, event, case}
use Rattle.hc_stored.specs.Entries.{shelf_of}
use Rattle.hc_entry.specs.Keys.{kept_of}
use Rattle.hc_event.specs.declared.place.Place.TheVariants as place
use Rattle.hc_state.specs.{Stands.{RowsStand}, Stored.{is_usable_kept}}
use Rattle.hc_on_leave.proofs.{HeadCases.{case_unselected}, HeardRows.{asker_of, asked_by}}
use Rattle.hc_on_head.proofs.TurnHandler.{answered_on, heard_on, usable_still, waits_on, at_turn, current_still, key_heard, not_still, selected_of, stands_selected, stands_unrenewed, still, reports_selected, there_still, unselected_case, unstill_as, validated_answered}
use Rattle.hc_on_head.proofs.turn.validate.Goals as goal

pub returns-in_default-clause-answers : goal.returns-in_default-clause-answers
returns-in_default-clause-answers g c = λ limits t w facts stands goes row about is.
    let r = c.args.rows.now in
    let x = c.args.heard.x in
    let response = c.args.response.now in
    let h = key_heard r x c.args.aim c.still_current.result c.requires.comes.accepted c.still_current.ensures in
    let off = not_still (kept_of r.keys h.0.request.key).current c.args.aim (sym (none_is c.still_current.result c.in_default.not-Some) ∙ h.2) in
    c.start_anew.ensures.answers case.NotValidated refl _ t w facts stands goes row
    (case_unselected (head_view t false w response) is (unstill_as r t x h.0 w c.args.aim response stands h.1 row about off)) refl about

pub select-requires : goal.select-requires
select-requires g c =
    let r = c.args.rows.now in
    let h = key_heard r c.args.heard.x c.args.aim c.still_current.result c.requires.comes.accepted c.still_current.ensures in
    let found = still (kept_of r.keys h.0.request.key).current c.args.aim c.in-Some.r (sym c.in-Some.is ∙ h.2) in
    record {
      may = record {
        there = there_still r h.0.request.key c.in-Some.r c.requires.comes.stands found.0;
        running = ap (λ o. is_some o) h.1;
        timely = c.requires.timely;
      };
    }

pub start_anew-requires-in-Ok-false-clause-comes : goal.start_anew-requires-in-Ok-false-clause-comes
start_anew-requires-in-Ok-false-clause-comes g c =
    let r = c.args.rows.now in
    let mid = c.select.new.rows in
    let x = c.args.heard.x in
    let h = key_heard r x c.args.aim c.still_current.result c.requires.comes.accepted c.still_current.ensures in
    let found : c.select.result ≡ Ok false = cc in
    let sel = selected_of r mid x c.args.heard.now c.in-Some.r c.args.response.now c.select.result false found c.select.ensures.ok in
    heard_on r mid sel.rest c.args.heard (sel.head h.0 h.1) c.requires.comes

pub returns-in-Ok-true-clause-answers : goal.returns-in-Ok-true-clause-answers
returns-in-Ok-true-clause-answers g c = λ limits t w facts stands goes row about is.
    let r = c.args.rows.now in
    let mid = c.select.new.rows in
    let thr = c.let_through.new.rows in
    let u = c.refuse.new.rows in
    let now = c.args.heard.now in
    let x = c.args.heard.x in
    let q = c.in-Some.r in
    let response = c.args.response.now in
    let before = act_list c.args.out.now in
    let h = key_heard r x c.args.aim c.still_current.result c.requires.comes.accepted c.still_current.ensures in
    let s = current_still r t x h.0 w c.args.aim q stands h.1 row about (sym c.in-Some.is ∙ h.2) in
    let a = asker_of r t facts now x response w stands goes row in
    let for_it = asked_by r t x c.args.heard.c w stands c.requires.comes.accepted c.requires.comes.asker row in
    let found : c.select.result ≡ Ok true = cc in
    let sel = selected_of r mid x now q response c.select.result true found c.select.ensures.ok in
    let stood = subst (λ (d : ℕ). RowsStand limits thr
    (with_consumer d (Some (record a.v { place = place.Passed q (Some x) })) (with_representation q (Some (with_refreshed_head now response w s.v)) t)))
    (sym for_it)
    (c.let_through.ensures.stands _ t w a.v (with_refreshed_head now response w s.v) facts.law a.awaits for_it
    (at_turn r mid thr u t facts stands now x response goes w a is q s.v s.named s.cur s.row before before)
    (stands_selected r mid t x now h.0 w q response stands h.1 row s sel)) in
    validated_answered r mid thr u t facts stands now x response goes w a is q s.v s.named s.cur s.row before (act_list c.refuse.new.out)
    (sym (reports_selected r mid t x now h.0 w q response stands h.1 row s true sel)) stood c.refuse.ensures.acts c.refuse.ensures.rest.rest
    c.refuse.ensures.rest.consumers c.refuse.ensures.closed

pub returns-in-Ok-false-clause-answers : goal.returns-in-Ok-false-clause-answers
returns-in-Ok-false-clause-answers g c = λ limits t w facts stands goes row about is.
    let r = c.args.rows.now in
    let mid = c.select.new.rows in
    let u = c.start_anew-in-Ok-false.new.rows in
    let now = c.args.heard.now in
    let x = c.args.heard.x in
    let q = c.in-Some.r in
    let response = c.args.response.now in
    let before = act_list c.args.out.now in
    let h = key_heard r x c.args.aim c.still_current.result c.requires.comes.accepted c.still_current.ensures in
    let s = current_still r t x h.0 w c.args.aim q stands h.1 row about (sym c.in-Some.is ∙ h.2) in
    let a = asker_of r t facts now x response w stands goes row in
    let found : c.select.result ≡ Ok false = cc in
    let sel = selected_of r mid x now q response c.select.result false found c.select.ensures.ok in
    let off = sym (reports_selected r mid t x now h.0 w q response stands h.1 row s false sel) in
    answered_on r mid sel.rest u t before (act_list c.start_anew-in-Ok-false.new.out) now (event.Head x response) c.select.ensures.fails.cause.later
    (c.start_anew-in-Ok-false.ensures.answers case.NotValidated refl _ t w facts (stands_unrenewed r mid t sel.rest (sel.head h.0 h.1) stands) goes row
    (unselected_case r mid mid u t facts stands now x response goes w a is q s.v s.named s.cur s.row before before off) refl about)

pub lose_asked-requires-clause-comes : goal.lose_asked-requires-clause-comes
lose_asked-requires-clause-comes g c =
    (let kept = c.in-Err-Fault.ensures.fails.err in heard_on c.args.rows.now c.select.new.rows kept.rest c.args.heard kept.same c.requires.comes)

pub lose_asked-requires-clause-current : goal.lose_asked-requires-clause-current
lose_asked-requires-clause-current g c =
    let r = c.args.rows.now in
    let h = key_heard r c.args.heard.x c.args.aim c.still_current.result c.requires.comes.accepted c.still_current.ensures in
    let found = still (kept_of r.keys h.0.request.key).current c.args.aim c.in-Some.r (sym c.in-Some.is ∙ h.2) in
    ap is_usable_kept (c.in-Err-Fault.ensures.fails.err.same.kept c.in-Some.r) ∙ usable_still r h.0.request.key c.in-Some.r c.requires.comes.stands found.0

pub lose_asked-requires-clause-waits : goal.lose_asked-requires-clause-waits
lose_asked-requires-clause-waits g c = waits_on c.args.rows.now c.select.new.rows c.in-Err-Fault.ensures.fails.err.rest c.args.heard.c c.requires.waits

pub returns-in-Err-Fault-clause-answers : goal.returns-in-Err-Fault-clause-answers
returns-in-Err-Fault-clause-answers g c = λ limits t w facts stands goes row about is.
    let r = c.args.rows.now in
    let mid = c.select.new.rows in
    let u = c.lose_asked.new.rows in
    let now = c.args.heard.now in
    let x = c.args.heard.x in
    let q = c.in-Some.r in
    let response = c.args.response.now in
    let kept = c.in-Err-Fault.ensures.fails.err in
    let h = key_heard r x c.args.aim c.still_current.result c.requires.comes.accepted c.still_current.ensures in
    let s = current_still r t x h.0 w c.args.aim q stands h.1 row about (sym c.in-Some.is ∙ h.2) in
    c.lose_asked.ensures.answers (shelf_of r.entries).faults _ t w facts (stands_unrenewed r mid t kept.rest kept.same stands) goes row s.named s.cur is
    (c.select.ensures.fails.cause.fault (c.in-Err-Fault.is ∙ ap Err c.in-Err-Fault.field-0-is))
