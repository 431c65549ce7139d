use Rattle.std.{proofs.Common.{◌<◌, ℕ, [], ◌∷◌, ◌++◌, Some, nat_eq, ap, sym, ◌∙◌, subst}, specs.{Prelude.{IsSomeAnd}, HashMap.{get}}}
use Rattle.hc_effects.proofs.Vocabulary.{act_list, back_in_line, with_consumer, act, kind}
use Rattle.hc_stored.specs.Entries.{shelf_of}
use Rattle.hc_state.specs.{Handlers.{IsInKey}, Stands.{RowsStand}}
use Rattle.hc_on_leave.proofs.{HeardRows.{asker_of, asked_by}, LoseTurn.{v, there, kept, heard, heard_stands, quiet, may_lose, unwritten, alone_answered, written_answered}}
use Rattle.hc_on_head.proofs.LoseAsked.{awaits_it, kept_still, open_still}
use Rattle.hc_on_head.proofs.asked.lose_asked.Goals as goal

pub lose_group-requires-clause-there : goal.lose_group-requires-clause-there
lose_group-requires-clause-there g c =
    kept_still c.args.rows.now c.send_back.new.rows c.refuse.new.rows c.args.heard.now c.args.heard.x c.args.heard.c c.args.r c.requires.comes.stands
    c.requires.comes.accepted c.requires.comes.asker c.requires.waits c.requires.current c.send_back.ensures.stands c.refuse.ensures.rest.rest.entries
    c.send_back.ensures.rest.exchanges c.refuse.ensures.closed

pub lose_group-requires-clause-running : goal.lose_group-requires-clause-running
lose_group-requires-clause-running g c =
    open_still c.args.rows.now c.send_back.new.rows c.refuse.new.rows c.args.heard.now c.args.heard.x c.args.heard.c c.args.r c.requires.comes.stands
    c.requires.comes.accepted c.requires.comes.asker c.requires.waits c.requires.current c.send_back.ensures.stands c.refuse.ensures.rest.rest.entries
    c.send_back.ensures.rest.exchanges c.refuse.ensures.closed
    c.in-Some.x (sym c.writer_group-writer_group.ensures ∙ c.in-Some.is)

pub lose_to-requires-clause-there : goal.lose_to-requires-clause-there
lose_to-requires-clause-there g c =
    kept_still c.args.rows.now c.send_back.new.rows c.refuse.new.rows c.args.heard.now c.args.heard.x c.args.heard.c c.args.r c.requires.comes.stands
    c.requires.comes.accepted c.requires.comes.asker c.requires.waits c.requires.current c.send_back.ensures.stands c.refuse.ensures.rest.rest.entries
    c.send_back.ensures.rest.exchanges c.refuse.ensures.closed

pub returns-in-Some-clause-answers : goal.returns-in-Some-clause-answers
returns-in-Some-clause-answers g c = λ faults limits t w facts stands goes row aim cur is failed.
    let r = c.args.rows.now in
    let first = c.send_back.new.rows in
    let second = c.refuse.new.rows in
    let now = c.args.heard.now in
    let x = c.args.heard.x in
    let q = c.args.r in
    let y = c.in-Some.x in
    let response = c.args.response.now in
    let before = act_list c.args.out.now in
    let a = asker_of r t facts now x response w stands goes row in
    let for_it = asked_by r t x c.args.heard.c w stands c.requires.comes.accepted c.requires.comes.asker row in
    let writer_group = sym c.writer_group-writer_group.ensures ∙ c.in-Some.is in
    let waits = subst (λ (d : ℕ). IsSomeAnd (get nat_eq r.consumers d) (IsInKey r.keys d)) (sym for_it) c.requires.waits in
    let stood = subst (λ (d : ℕ). RowsStand limits first (with_consumer d (Some (back_in_line now a.v)) t)) (sym for_it)
    (c.send_back.ensures.stands _ t x w a.v facts a.awaits for_it (awaits_it r t facts stands x w a waits) stands) in
    let stood_too = heard_stands r second t facts stands now x response goes w row a q aim cur is first stood c.refuse.ensures.rest.rest
    c.refuse.ensures.rest.consumers c.refuse.ensures.closed in
    let lost = c.lose_group.ensures.lost _ (heard r second t facts stands now x response goes w row a q aim cur is)
    (v r second t facts stands now x response goes w row a q aim cur is)
    (may_lose r second t facts stands now x response goes w row a q aim cur is y writer_group) stood_too in
    written_answered r second t facts stands now x response goes w row a q aim cur is y writer_group c.lose_group.new.rows faults before
    (act_list c.refuse.new.out) (act_list c.lose_group.new.out)
    (quiet r second t facts stands now x response goes w row a q aim cur is first before (act_list c.refuse.new.out) stood c.refuse.ensures.acts) lost
    (subst (λ (n : ℕ). faults < n)
    (sym (c.lose_group.ensures.faults ∙ (ap (λ z. (shelf_of z).faults) c.refuse.ensures.rest.rest.entries ∙ c.send_back.ensures.rest.faults))) failed)

pub returns-in-None-clause-answers : goal.returns-in-None-clause-answers
returns-in-None-clause-answers g c = λ faults limits t w facts stands goes row aim cur is failed.
    let r = c.args.rows.now in
    let first = c.send_back.new.rows in
    let second = c.refuse.new.rows in
    let now = c.args.heard.now in
    let x = c.args.heard.x in
    let q = c.args.r in
    let response = c.args.response.now in
    let before = act_list c.args.out.now in
    let a = asker_of r t facts now x response w stands goes row in
    let for_it = asked_by r t x c.args.heard.c w stands c.requires.comes.accepted c.requires.comes.asker row in
    let waits = subst (λ (d : ℕ). IsSomeAnd (get nat_eq r.consumers d) (IsInKey r.keys d)) (sym for_it) c.requires.waits in
    let stood = subst (λ (d : ℕ). RowsStand limits first (with_consumer d (Some (back_in_line now a.v)) t)) (sym for_it)
    (c.send_back.ensures.stands _ t x w a.v facts a.awaits for_it (awaits_it r t facts stands x w a waits) stands) in
    let stood_too = heard_stands r second t facts stands now x response goes w row a q aim cur is first stood c.refuse.ensures.rest.rest
    c.refuse.ensures.rest.consumers c.refuse.ensures.closed in
    let its = v r second t facts stands now x response goes w row a q aim cur is in
    let here = there r second t facts stands now x response goes w row a q aim cur is in
    let stays = kept r second t facts stands now x response goes w row a q aim cur is in
    let same = quiet r second t facts stands now x response goes w row a q aim cur is first before (act_list c.refuse.new.out) stood c.refuse.ensures.acts in
    alone_answered r second t facts stands now x response goes w row a q aim cur is c.lose_to.new.rows faults before (act_list c.lose_to.new.out)
    c.exclusive-alone.result
    (c.exclusive-alone.ensures _ t its facts stands here stays)
    (unwritten r t facts stands q its here (sym c.writer_group-writer_group.ensures ∙ c.in-None.is)) stood_too
    (c.lose_to.ensures.acts ∙ ap (λ z. z ++ (act.Lost q kind.Fault ∷ [])) same) c.lose_to.ensures.lost
    (subst (λ (n : ℕ). faults < n)
    (sym (c.lose_to.ensures.faults ∙ (ap (λ z. (shelf_of z).faults) c.refuse.ensures.rest.rest.entries ∙ c.send_back.ensures.rest.faults))) failed)
