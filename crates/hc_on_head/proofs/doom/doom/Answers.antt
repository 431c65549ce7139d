use Rattle.std.{proofs.{Common.{◌+◌, ◌<◌, length, arith}, Math.Logic.{∥∥₁_map}}, specs.HashMap.{hash_map_len}}
use Rattle.hc_effects.proofs.Vocabulary.{act_list}
use Rattle.hc_exch.specs.{Exchanges.{table_of}, Known.{is_open}}
use Rattle.hc_state.specs.Dooms.{IsUnheard}
use Rattle.hc_on_head.proofs.{DoomHandler.{dooms, keeps_line, if_some}, DoomCloses.{runs, few_close}}
use Rattle.hc_state.proofs.Maps.{merely_true, merely_below}
use Rattle.hc_on_head.proofs.doom.doom.Goals as goal

pub close_awaited-requires-clause-running : goal.close_awaited-requires-clause-running
close_awaited-requires-clause-running g c = λ x is.
    let r = c.args.rows.now in
    let key = c.args.key.now in
    let unheard = if_some c.args.refused (IsUnheard (table_of r.exchanges) key) c.requires.unheard in
    merely_true (is_open x (table_of r.exchanges)) c.requires.stands
    (λ s. runs r s.t s.facts.law key s.rows c.args.refused unheard x is)

pub close_awaited-requires-clause-few : goal.close_awaited-requires-clause-few
close_awaited-requires-clause-few g c = λ xs up each.
    let r = c.args.rows.now in
    let key = c.args.key.now in
    let unheard = if_some c.args.refused (IsUnheard (table_of r.exchanges) key) c.requires.unheard in
    let few : length xs < hash_map_len r.consumers + 1 =
    merely_below (length xs) (hash_map_len r.consumers + 1) c.requires.stands
    (λ s. (let le = few_close r s.t s.facts.law key s.rows c.args.refused unheard xs up each in omega (arith, le))) in
    let room = c.requires.room in
    omega (arith, few, room)

pub wake-requires : goal.wake-requires
wake-requires g c =
    let r = c.args.rows.now in
    let step = c.close_awaited.ensures in
    record {
      waits = ∥∥₁_map c.requires.stands
          (λ s. record {
            t = s.t;
            law = s.facts.law;
            keeps = keeps_line r c.close_awaited.new.rows s.t c.args.key.now s.rows step.rest.consumers step.rest.rest;
          });
    }

pub returns-clause-doomed : goal.returns-clause-doomed
returns-clause-doomed g c =
    let step = c.close_awaited.ensures in
    let wakes = c.wake.ensures in
    dooms c.args.rows.now c.close_awaited.new.rows c.wake.new.rows c.args.now c.args.key.now c.args.refused (act_list c.args.out.now)
    (act_list c.close_awaited.new.out) c.requires.unheard
    step.closes step.rest.consumers step.rest.rest wakes.consumers wakes.keys wakes.entries wakes.bounded wakes.rest.last_start wakes.rest.exchanges
    c.current-current.result c.let_some_go.new.rows c.current-current.ensures c.let_some_go.ensures.stands
