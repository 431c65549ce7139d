use Rattle.std.{proofs.Common.{◌<◌, ℕ, Some, true, false, Err, ap, sym, ◌∙◌, subst, arith}, specs.{Prelude.{is_some, nat_eq}, HashMap.{get}}}
use Rattle.hc_effects.proofs.Vocabulary.{act_list}
use Rattle.hc_stored.specs.Entries.{shelf_of}
use Rattle.hc_exch.specs.Exchanges.{table_of}
use Rattle.hc_effects.proofs.LettingGo.{may_let_go}
use Rattle.hc_on_head.proofs.{JoinHandler.{join_of, gone_joined, past_answered, stands_alone, stands_shared, joins_answered, holds_alone, kept_growing, fresh_growing, brings_lost, lost_answered}, JoinReported.{joins_of}, TurnHandler.{stands_unrenewed}}
use Rattle.hc_on_head.proofs.join.join.Goals as goal

pub returns-then-is_lost-clause-answers : goal.returns-then-is_lost-clause-answers
returns-then-is_lost-clause-answers g c = λ k any joins limits t w facts stands goes row is doomless same.
    let r = c.args.rows.now in
    let now = c.args.heard.now in
    let x = c.args.heard.x in
    let q = c.args.r in
    let response = c.args.response.now in
    let j = join_of r t facts stands now x c.args.heard.c q response w row k joins goes is c.requires.comes.accepted c.requires.comes.asker
    c.requires.about.about c.requires.about.there in
    let lost = sym j.is.is_lost ∙ (sym (c.is_lost.ensures j.e j.kept) ∙ c.if-is_lost.true) in
    let gone = (facts.law.sound.rows q j.p j.row).store.lost_is_gone lost in
    past_answered r c.bring.new.rows t facts now x response goes w j.a k (joins_of k joins) is q j.aim j.p j.row (act_list c.args.out.now) lost
    (gone_joined r c.bring.new.rows t now x q c.args.heard.c response w j.a.v j.p j.can j.a.k j.o j.e stands j.for_it j.a.there j.running j.on j.kept gone
    c.bring.ensures)

pub share-requires : goal.share-requires
share-requires g c = record {
  there = kept_growing c.args.rows.now c.renew_growing.new.rows c.bring-in-Ok.new.rows c.args.heard.now c.args.heard.x c.args.r c.args.response.now
      c.requires.comes.accepted c.requires.about.there c.in-Ok.ensures.ok c.bring-in-Ok.ensures.entries;
  fresh = fresh_growing c.args.rows.now c.renew_growing.new.rows c.bring-in-Ok.new.rows c.args.heard.now c.args.heard.x c.args.r c.args.response.now
      c.requires.comes.accepted (λ k at. sym (c.is_lost.ensures k at) ∙ c.if-is_lost.false) c.requires.about.there c.in-Ok.ensures.ok
      c.bring-in-Ok.ensures.entries;
}

pub returns-in_ok-share-in-Ok-clause-answers : goal.returns-in_ok-share-in-Ok-clause-answers
returns-in_ok-share-in-Ok-clause-answers g c = λ k any joins limits t w facts stands goes row is doomless same.
    let r = c.args.rows.now in
    let now = c.args.heard.now in
    let x = c.args.heard.x in
    let q = c.args.r in
    let response = c.args.response.now in
    let j = join_of r t facts stands now x c.args.heard.c q response w row k joins goes is c.requires.comes.accepted c.requires.comes.asker
    c.requires.about.about c.requires.about.there in
    let kept = sym j.is.is_lost ∙ (sym (c.is_lost.ensures j.e j.kept) ∙ c.if-is_lost.false) in
    let resumed = sym c.if-resumes.true ∙
    c.resumes-resumes.ensures _ t w j.p j.e j.hole.0 j.hole.1 facts stands row j.a.awaits.is_open j.hole.2 j.for_it j.row kept j.kept j.reported in
    joins_answered r c.share.new.rows t facts now x response goes w j.a k (joins_of k joins) is q j.aim j.p j.row (act_list c.args.out.now) kept true resumed
    (stands_shared r c.share.new.rows t now x q c.args.heard.c response w j.a.v j.p j.can j.a.k j.o j.e stands j.for_it j.a.there j.running j.on j.kept
    c.renew_growing.new.rows c.bring-in-Ok.new.rows c.in-Ok.ensures.ok c.bring-in-Ok.ensures c.in_ok-share-in-Ok.ensures.shares)
    (shelf_of r.entries).faults

pub returns-else-resumes-clause-answers : goal.returns-else-resumes-clause-answers
returns-else-resumes-clause-answers g c = λ k any joins limits t w facts stands goes row is doomless same.
    let r = c.args.rows.now in
    let now = c.args.heard.now in
    let x = c.args.heard.x in
    let q = c.args.r in
    let response = c.args.response.now in
    let j = join_of r t facts stands now x c.args.heard.c q response w row k joins goes is c.requires.comes.accepted c.requires.comes.asker
    c.requires.about.about c.requires.about.there in
    let kept = sym j.is.is_lost ∙ (sym (c.is_lost.ensures j.e j.kept) ∙ c.if-is_lost.false) in
    let resumed = sym c.if-resumes.false ∙
    c.resumes-resumes.ensures _ t w j.p j.e j.hole.0 j.hole.1 facts stands row j.a.awaits.is_open j.hole.2 j.for_it j.row kept j.kept j.reported in
    joins_answered r c.bring-in-Ok.new.rows t facts now x response goes w j.a k (joins_of k joins) is q j.aim j.p j.row (act_list c.args.out.now) kept
    false resumed
    (stands_alone r c.bring-in-Ok.new.rows t now x q c.args.heard.c response w j.a.v j.p j.can j.a.k j.o j.e stands j.for_it j.a.there j.running j.on
    j.kept c.renew_growing.new.rows c.bring-in-Ok.new.rows c.in-Ok.ensures.ok c.bring-in-Ok.ensures)
    (shelf_of r.entries).faults

pub bring-requires-in-Err-Fault-clause-live : goal.bring-requires-in-Err-Fault-clause-live
bring-requires-in-Err-Fault-clause-live g c =
    c.lose_to.ensures.live c.args.heard.c ∙
    (ap (λ z. is_some (get nat_eq z c.args.heard.c)) c.in-Err-Fault.ensures.fails.err.rest.consumers ∙ c.requires.comes.live)

pub returns-in-Err-Fault-clause-answers : goal.returns-in-Err-Fault-clause-answers
returns-in-Err-Fault-clause-answers g c = λ k any joins limits t w facts stands goes row is doomless same.
    let r = c.args.rows.now in
    let mid = c.renew_growing.new.rows in
    let l = c.lose_to.new.rows in
    let u = c.bring-in-Err-Fault.new.rows in
    let now = c.args.heard.now in
    let x = c.args.heard.x in
    let q = c.args.r in
    let d = c.args.heard.c in
    let response = c.args.response.now in
    let stayed = c.in-Err-Fault.ensures.fails.err in
    let j = join_of r t facts stands now x d q response w row k joins goes is c.requires.comes.accepted c.requires.comes.asker c.requires.about.about
    c.requires.about.there in
    let kept = sym j.is.is_lost ∙ (sym (c.is_lost.ensures j.e j.kept) ∙ c.if-is_lost.false) in
    let holds = holds_alone r u t facts now x response goes w j.a k (joins_of k joins) is q j.aim j.p j.row (act_list c.args.out.now) kept d j.for_it in
    let lost = c.lose_to.ensures.lost _ t j.p (may_let_go t facts.law) j.row ((facts.law.sound.rows q j.p j.row).store.nobody_alone kept) holds
    (stands_unrenewed r mid t stayed.rest stayed.same stands) in
    let running = ap (λ z. (table_of z x).running) (c.lose_to.ensures.exchanges ∙ stayed.rest.exchanges) ∙ j.running in
    let failed = subst (λ (n : ℕ). (shelf_of r.entries).faults < n)
    (sym (ap (λ z. (shelf_of z).faults) c.bring-in-Err-Fault.ensures.entries ∙ c.lose_to.ensures.faults))
    (c.renew_growing.ensures.fails.cause.fault (c.in-Err-Fault.is ∙ ap Err c.in-Err-Fault.field-0-is)) in
    lost_answered r u t facts now x response goes w j.a k (joins_of k joins) is q j.aim j.p j.row (act_list c.args.out.now) kept d j.for_it
    (shelf_of r.entries).faults (act_list c.lose_to.new.out) c.lose_to.ensures.acts failed
    (brings_lost l u t facts.law now x q d response w j.a.v j.p j.can (Some d) j.for_it j.o running j.on lost c.bring-in-Err-Fault.ensures)
