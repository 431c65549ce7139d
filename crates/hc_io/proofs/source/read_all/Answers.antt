use Rattle.std.proofs.{Common.{◌≡◌, take, arith, rules, ap, ◌∙◌}, lemmas.List.{with_items_is, places}}
use Rattle.hc_io.proofs.Givings.{gives_next}
use Rattle.hc_io.proofs.source.read_all.Goals as goal

pub loop-bytes-preserved : goal.loop-bytes-preserved
loop-bytes-preserved g c =
    let after = c.read_at.new.into in
    let is = with_items_is c.make_room.new.bytes after (search (rules, places)) in
    let read = c.in_ok-n.ensures in
    let before = c.loop-bytes.invariant in
    let front : take c.loop-bytes.filled after ≡ take c.loop-bytes.filled c.loop-bytes.bytes.items =
    read.front ∙ ap (take c.loop-bytes.filled) c.as_mut_slice.ensures.value ∙ c.in_ok-make_room.ensures.front in
    record {
      within = rw is read.at_most;
      gives = rw is (gives_next _ _ _ c.loop-bytes.bytes.items after c.loop-bytes.filled c.in_ok-n.n before.gives front read.bytes);
      count = omega (arith, read.count, before.count);
      small = omega (arith, read.count, before.count, read.in_all);
      calm = omega (arith, read.calm, before.calm);
    }
