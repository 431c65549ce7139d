use Rattle.std.{proofs.Common.{Some, None, refl, ap, ◌∙◌, arith}, specs.Prelude.{is_some}}
use Rattle.hc_exch.specs.Known.{Known}
use Rattle.hc_effects.proofs.Vocabulary.{act_list, spare}
use Rattle.hc_state.specs.Dooms.{behind}
use Rattle.hc_on_head.proofs.DoomLoops.{none_closed, known_yet, fits_yet, one_closed, all_closed, next_as}
use Rattle.hc_on_head.proofs.doom.close_awaited.Goals as goal

pub loop-x-init : goal.loop-x-init
loop-x-init g c = record {
  closed = none_closed c.args.rows.now c.args.key.now c.args.refused (act_list c.args.out.now) (spare c.args.out.now);
  rest = record { consumers = refl; rest = record { last_start = refl; keys = refl; entries = refl } };
}

pub close-requires-clause-running : goal.close-requires-clause-running
close-requires-clause-running g c =
    let r = c.args.rows.now in
    let i = c.loop-x.invariant in
    let next = next_as r c.loop-x.rows c.args.key.now c.args.refused (behind c.loop-x.last) (Some c.in-Some.x) i.rest.consumers i.rest.rest.keys
    c.in-Some.ensures in
    ap (λ (k : Known). is_some k.running)
    (known_yet r c.loop-x.rows.exchanges c.args.key.now c.args.refused (act_list c.args.out.now) (act_list c.loop-x.out) (spare c.args.out.now)
    (spare c.loop-x.out) (behind c.loop-x.last) c.in-Some.x i.closed next)
    ∙ c.requires.running c.in-Some.x next.1

pub close-requires-clause-room : goal.close-requires-clause-room
close-requires-clause-room g c =
    let r = c.args.rows.now in
    let i = c.loop-x.invariant in
    let next = next_as r c.loop-x.rows c.args.key.now c.args.refused (behind c.loop-x.last) (Some c.in-Some.x) i.rest.consumers i.rest.rest.keys
    c.in-Some.ensures in
    fits_yet r c.loop-x.rows.exchanges c.args.key.now c.args.refused (act_list c.args.out.now) (act_list c.loop-x.out) (spare c.args.out.now)
    (spare c.loop-x.out) (behind c.loop-x.last) c.in-Some.x i.closed next (spare c.args.out.now) c.requires.few (omega arith)

pub loop-x-preserved : goal.loop-x-preserved
loop-x-preserved g c =
    let r = c.args.rows.now in
    let i = c.loop-x.invariant in
    let next = next_as r c.loop-x.rows c.args.key.now c.args.refused (behind c.loop-x.last) (Some c.in-Some.x) i.rest.consumers i.rest.rest.keys
    c.in-Some.ensures in
    let step = c.close.ensures in
    record {
      closed = one_closed r c.loop-x.rows.exchanges c.args.key.now c.args.refused (act_list c.args.out.now) (act_list c.loop-x.out) (spare c.args.out.now)
          (spare c.loop-x.out) (behind c.loop-x.last) c.in-Some.x i.closed next
          c.close.new.rows.exchanges (act_list c.close.new.out) (spare c.close.new.out) step.acts step.room step.closed;
      rest = record {
        consumers = step.consumers ∙ i.rest.consumers;
        rest = record {
          last_start = step.rest.last_start ∙ i.rest.rest.last_start;
          keys = step.rest.keys ∙ i.rest.rest.keys;
          entries = step.rest.entries ∙ i.rest.rest.entries;
        };
      };
    }

pub returns-clause-closes : goal.returns-clause-closes
returns-clause-closes g c =
    let r = c.args.rows.now in
    let i = c.loop-x.invariant in
    all_closed r c.loop-x.rows.exchanges c.args.key.now c.args.refused (act_list c.args.out.now) (act_list c.loop-x.out) (spare c.args.out.now)
    (spare c.loop-x.out) (behind c.loop-x.last) i.closed
    (next_as r c.loop-x.rows c.args.key.now c.args.refused (behind c.loop-x.last) None i.rest.consumers i.rest.rest.keys c.in_default.ensures)
