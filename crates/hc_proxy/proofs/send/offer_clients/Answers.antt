use Rattle.std.proofs.{Common.{rules, ◌∙◌, refl, subst, ℕ, List, ◌+◌, ◌<◌, ◌≤◌, length, drop, get_or}, lemmas.List.{drop_all}}
use Rattle.hc_proxy.specs.Unsent.{SendsToClients}
use Rattle.hc_proxy.proofs.OfferedAll.{next_left, clients_next, clients_fail}
use Rattle.hc_proxy.proofs.send.offer_clients.Goals as goal
use Rattle.hc_record.proofs.JoiningLemmas.{on_err}

pub loop-k-init : goal.loop-k-init
loop-k-init g c = record { sends = λ p log up s. s; events = refl; faults = refl }

pub loop-k-preserved : goal.loop-k-preserved
loop-k-preserved g c = record {
  sends = λ p log up s.
      let ks = c.args.ks.now in
      let i = c.loop-k.k-index in
      let lt : i < length ks = let on = c.loop-k-test.true in search rules in
      clients_next p log up g.W.Wire.stages g.W.Wire.log c.loop-k.wire c.offer.new.wire c.loop-k.clients c.offer.new.self (get_or ks i 0) (drop (i + 1) ks)
      (subst (λ (left : List ℕ). SendsToClients p log left c.loop-k.clients up (g.W.Wire.log c.loop-k.wire) (g.W.Wire.stages c.loop-k.wire))
      (next_left ks i lt) (c.loop-k.invariant.sends p log up s))
      c.in_ok-offer.ensures.ok;
  events = c.in_ok-offer.ensures.events ∙ c.loop-k.invariant.events;
  faults = c.in_ok-offer.ensures.cause.calm ∙ c.loop-k.invariant.faults;
}

pub returns-in_err-offer-clause-err : goal.returns-in_err-offer-clause-err
returns-in_err-offer-clause-err g c = λ p log up s.
    let ks = c.args.ks.now in
    let i = c.loop-k.k-index in
    let lt : i < length ks = let on = c.loop-k-test.true in search rules in
    on_err c.from_residual.result _
    (clients_fail p log up g.W.Wire.stages g.W.Wire.log c.loop-k.wire c.offer.new.wire c.loop-k.clients c.offer.new.self (get_or ks i 0) (drop (i + 1) ks)
    (subst (λ (left : List ℕ). SendsToClients p log left c.loop-k.clients up (g.W.Wire.log c.loop-k.wire) (g.W.Wire.stages c.loop-k.wire))
    (next_left ks i lt) (c.loop-k.invariant.sends p log up s))
    c.in_err-offer.ensures.err)

pub returns-clause-ok : goal.returns-clause-ok
returns-clause-ok g c = λ p log up s.
    let ks = c.args.ks.now in
    let i = c.loop-k.k-index in
    let all : length ks ≤ i = let off = c.loop-k-test.false in search rules in
    subst (λ (left : List ℕ). SendsToClients p log left c.loop-k.clients up (g.W.Wire.log c.loop-k.wire) (g.W.Wire.stages c.loop-k.wire))
    (drop_all i ks all) (c.loop-k.invariant.sends p log up s)
