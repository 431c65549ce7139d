use Rattle.std.proofs.{Common.{rules, ◌≡◌, ◌∙◌, refl, ap, sym, subst, ℕ, List, ◌+◌, ◌<◌, ◌≤◌, length, drop, get_or}, lemmas.List.{drop_all}}
use Rattle.hc_effects.proofs.Vocabulary.{is_wanted, Tables}
use Rattle.hc_proxy.specs.Unsent.{SendsToOrigins}
use Rattle.hc_proxy.proofs.OfferedAll.{next_left, origins_next, origins_fail}
use Rattle.hc_proxy.proofs.send.offer_upstreams.Goals as goal
use Rattle.hc_record.proofs.JoiningLemmas.{on_err}

pub loop-x-init : goal.loop-x-init
loop-x-init g c = record { sends = λ p log cl stands same s. s; events = refl; faults = refl }

pub loop-x-preserved : goal.loop-x-preserved
loop-x-preserved g c = record {
  sends = λ p log cl stands same s.
      let xs = c.args.xs.now in
      let i = c.loop-x.x-index in
      let lt : i < length xs = let on = c.loop-x-test.true in search rules in
      let y = get_or xs i 0 in
      let wanted : c.wants-on.result ≡ is_wanted (p.tables.exchange y) = c.wants-on.ensures p.setting.contents p.history stands ∙
      ap (λ (t : Tables). is_wanted (t.exchange y)) (sym same) in
      origins_next p log cl g.W.Wire.stages g.W.Wire.log c.loop-x.wire c.offer.new.wire c.loop-x.upstreams c.offer.new.self y c.wants-on.result
      (drop (i + 1) xs)
      (subst (λ (left : List ℕ). SendsToOrigins p log left cl c.loop-x.upstreams (g.W.Wire.log c.loop-x.wire) (g.W.Wire.stages c.loop-x.wire))
      (next_left xs i lt) (c.loop-x.invariant.sends p log cl stands same s))
      wanted c.in_ok-offer.ensures.news c.in_ok-offer.ensures.touched c.in_ok-offer.ensures.ok;
  events = c.in_ok-offer.ensures.events ∙ c.loop-x.invariant.events;
  faults = c.in_ok-offer.ensures.cause.calm ∙ c.loop-x.invariant.faults;
}

pub returns-in_err-offer-clause-err : goal.returns-in_err-offer-clause-err
returns-in_err-offer-clause-err g c = λ p log cl stands same s.
    let xs = c.args.xs.now in
    let i = c.loop-x.x-index in
    let lt : i < length xs = let on = c.loop-x-test.true in search rules in
    on_err c.from_residual.result _
    (origins_fail p log cl g.W.Wire.stages g.W.Wire.log c.loop-x.wire c.offer.new.wire c.loop-x.upstreams c.offer.new.self (get_or xs i 0)
    c.wants-on.result (drop (i + 1) xs)
    (subst (λ (left : List ℕ). SendsToOrigins p log left cl c.loop-x.upstreams (g.W.Wire.log c.loop-x.wire) (g.W.Wire.stages c.loop-x.wire))
    (next_left xs i lt) (c.loop-x.invariant.sends p log cl stands same s))
    c.in_err-offer.ensures.err)

pub returns-clause-ok : goal.returns-clause-ok
returns-clause-ok g c = λ p log cl stands same s.
    let xs = c.args.xs.now in
    let i = c.loop-x.x-index in
    let all : length xs ≤ i = let off = c.loop-x-test.false in search rules in
    subst (λ (left : List ℕ). SendsToOrigins p log left cl c.loop-x.upstreams (g.W.Wire.log c.loop-x.wire) (g.W.Wire.stages c.loop-x.wire))
    (drop_all i xs all) (c.loop-x.invariant.sends p log cl stands same s)
