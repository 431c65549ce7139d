use Rattle.std.proofs.Common.{rules, refl}
use Rattle.hc_effects.proofs.Vocabulary.{act}
use Rattle.hc_proxy.proofs.{Dialings.{any_not_there, any_fresh, any_target, opens_goes}, Carryings.{stays_on, fails_before, fails_opening, answer_goes, ask_goes, received_of, cause_none}, Hangings.{close_goes}}
use Rattle.hc_proxy.proofs.proxy.Proxy.carry_out_one.Goals as goal
use Rattle.hc_peers.proofs.Outcomes.{err-map, ok-map}
use Rattle.hc_record.proofs.JoiningLemmas.{on_err}

pub open-requires-clause-new : goal.open-requires-clause-new
open-requires-clause-new g c = let any = rw c.in-Opened.is at c.requires.next in
    any_not_there c.args.self.now _ c.in-Opened.x c.in-Opened.c c.in-Opened.need c.in-Opened.request any

pub open-requires-clause-fresh : goal.open-requires-clause-fresh
open-requires-clause-fresh g c = let any = rw c.in-Opened.is at c.requires.next in
    any_fresh c.args.self.now _ c.in-Opened.x c.in-Opened.c c.in-Opened.need c.in-Opened.request any

pub open-requires-clause-target : goal.open-requires-clause-target
open-requires-clause-target g c = let any = rw c.in-Opened.is at c.requires.next in
    any_target c.args.self.now _ c.in-Opened.x c.in-Opened.c c.in-Opened.need c.in-Opened.request any

pub returns-in_err-ask-in-Ask-clause-err : goal.returns-in_err-ask-in-Ask-clause-err
returns-in_err-ask-in-Ask-clause-err g c = λ t p log acts h on. on_err c.from_residual.result _ (fails_before t c.args.self.now p c.args.act acts log _ _ on h)

pub returns-in_err-answer-in_default : goal.returns-in_err-answer-in_default
returns-in_err-answer-in_default g c = record {
  ok = λ t p log acts h on. search rules;
  err = λ t p log acts h on. on_err c.from_residual-in_err-answer-in_default.result _ (fails_before t c.args.self.now p c.args.act acts log _ _ on h);
  cache = refl;
  events = refl;
  cause = search rules;
}

pub returns-in-Opened-clause-ok : goal.returns-in-Opened-clause-ok
returns-in-Opened-clause-ok g c = λ t p log acts h on.
    let h' = rw c.in-Opened.is at h in
    ok-map c.open.result _ _
    (λ o. rw c.in-Opened.is (opens_goes t c.args.self.now c.open.new.upstreams p acts c.in-Opened.x c.in-Opened.c c.in-Opened.need c.in-Opened.request log
    _ _ _ _ o h' on)) c.open.ensures.ok

pub returns-in-Opened-clause-err : goal.returns-in-Opened-clause-err
returns-in-Opened-clause-err g c = λ t p log acts h on.
    let h' = rw c.in-Opened.is at h in
    err-map c.open.result _ _
    (λ d. fails_opening t c.args.self.now p acts c.in-Opened.x c.in-Opened.c c.in-Opened.need c.in-Opened.request log _ _ _ _ on h' d) c.open.ensures.err

pub returns-in_ok-ask-in-Ask-clause-ok : goal.returns-in_ok-ask-in-Ask-clause-ok
returns-in_ok-ask-in-Ask-clause-ok g c = λ t p log acts h on.
    let h' = rw c.in-Ask.is at h in
    rw c.in-Ask.is (stays_on t _ p (act.Ask c.in-Ask.x) acts log _ _ on
    (ask_goes t c.args.self.now p acts c.ask.new.self c.in-Ask.x c.in_ok-ask-in-Ask.ensures.ok c.in_ok-ask-in-Ask.ensures.news
    c.in_ok-ask-in-Ask.ensures.touched h'))

pub returns-in_err-hang_up-in-Close-clause-err : goal.returns-in_err-hang_up-in-Close-clause-err
returns-in_err-hang_up-in-Close-clause-err g c =
    λ t p log acts h on. on_err c.from_residual-in_err-hang_up-in-Close.result _ (fails_before t c.args.self.now p c.args.act acts log _ _ on h)

pub returns-in_ok-hang_up-in-Close-clause-ok : goal.returns-in_ok-hang_up-in-Close-clause-ok
returns-in_ok-hang_up-in-Close-clause-ok g c = λ t p log acts h on.
    let h' = rw c.in-Close.is at h in
    rw c.in-Close.is (stays_on t c.hang_up.new.self p (act.Close c.in-Close.x) acts log _ _ on
    (close_goes t c.in-Close.x acts c.args.self.now c.hang_up.new.self p h' c.in_ok-hang_up-in-Close.ensures.ok))

pub returns-in_ok-answer-in_default : goal.returns-in_ok-answer-in_default
returns-in_ok-answer-in_default g c = record {
  ok = λ t p log acts h on.
      stays_on t _ p c.args.act acts log _ _ on
      (answer_goes t c.args.self.now p acts c.answer.new.self c.args.act
      (received_of t c.args.self.now p acts c.args.act c.in_default.not-Opened c.in_default.not-Ask c.in_default.not-Close)
      c.in_ok-answer-in_default.ensures h);
  err = λ t p log acts h on. tt;
  cache = refl;
  events = refl;
  cause = cause_none _ _ tt;
}
