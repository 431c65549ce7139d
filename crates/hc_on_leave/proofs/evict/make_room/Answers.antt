use Rattle.std.proofs.{Common.{[], refl, sym, ◌∙◌, arith}, lemmas.List.{append-nil}}
use Rattle.hc_effects.proofs.Vocabulary.{act_list, spare}
use Rattle.hc_state.specs.Room.{room_for_write}
use Rattle.hc_state.proofs.Rooms.{one_gone, all_gone, no_more, none_way, leaves_all}
use Rattle.hc_on_leave.proofs.evict.make_room.Goals as goal

pub returns-in_default : goal.returns-in_default
returns-in_default g c = record {
  gives = none_way c.args.rows.now c.args.now c.args.write (act_list c.args.out.now) (λ count is. c.in_default.not-After count (c.room.ensures ∙ is));
  appends = ([], sym (append-nil (act_list c.args.out.now)));
  room = leaves_all (spare c.args.out.now) (room_for_write c.args.rows.now c.args.write) (λ count is. c.in_default.not-After count (c.room.ensures ∙ is));
  last_start = refl;
  exchanges = refl;
  faults = refl;
}

pub returns-in_default-first_idle-clause-gives : goal.returns-in_default-first_idle-clause-gives
returns-in_default-first_idle-clause-gives g c =
    no_more c.args.rows.now c.loop-i.rows c.args.now c.loop-i.i (act_list c.args.out.now) (act_list c.loop-i.out) (spare c.args.out.now)
    (spare c.loop-i.out) c.loop-i.invariant
    c.args.write c.in-After.count (sym c.room.ensures ∙ c.in-After.is) (omega arith) (sym c.in_default-first_idle.is ∙ c.first_idle.ensures)

pub loop-i-preserved : goal.loop-i-preserved
loop-i-preserved g c =
    one_gone c.args.rows.now c.loop-i.rows c.args.now c.loop-i.i (act_list c.args.out.now) (act_list c.loop-i.out) (spare c.args.out.now)
    (spare c.loop-i.out) c.loop-i.invariant
    c.let_go.new.rows c.in-Some.r (act_list c.put.new.out) (spare c.put.new.out) (sym c.in-Some.is ∙ c.first_idle.ensures) c.put.ensures.acts c.put.ensures.room
    c.let_go.ensures.stands c.let_go.ensures.around.last_start c.let_go.ensures.around.exchanges c.let_go.ensures.around.faults

pub returns-clause-gives : goal.returns-clause-gives
returns-clause-gives g c =
    all_gone c.args.rows.now c.loop-i.rows c.args.now c.loop-i.i (act_list c.args.out.now) (act_list c.loop-i.out) (spare c.args.out.now)
    (spare c.loop-i.out) c.loop-i.invariant
    c.args.write c.in-After.count (sym c.room.ensures ∙ c.in-After.is) (let end = c.loop-i.auto.i-end in omega (arith, end))
