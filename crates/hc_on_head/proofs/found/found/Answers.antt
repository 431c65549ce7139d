use Rattle.std.proofs.Common.{◌∙◌}
use Rattle.hc_effects.proofs.Vocabulary.{act_list, spare}
use Rattle.hc_stored.specs.Entries.{shelf_of}
use Rattle.hc_on_head.proofs.FoundAnswers.{key_reported, fits_acts, one_left, new_kept, taken, refused}
use Rattle.hc_on_head.proofs.found.found.Goals as goal

pub make_room-requires : goal.make_room-requires
make_room-requires g c = record {
  fits = fits_acts c.args.rows.now c.fall_back.new.rows c.let_some_go.new.rows c.let_some_go-2.new.rows c.args.heard.now c.args.heard.x c.args.heard.c
      c.args.goes c.current-current.result c.in_ok-founding.founding.key
      c.requires.comes.accepted c.requires.comes.asker
      (key_reported c.args.rows.now c.args.heard.now c.args.heard.x c.args.heard.c c.args.case c.args.response.now c.in_ok-founding.founding
      c.in_ok-founding.ensures) c.current-current.ensures
      c.fall_back.ensures.stands c.let_some_go.ensures.stands c.let_some_go-2.ensures.stands
      c.requires.comes.stands (spare c.args.out.now) c.requires.room;
}

pub found_with-requires-clause-new : goal.found_with-requires-clause-new
found_with-requires-clause-new g c =
    new_kept c.args.rows.now c.fall_back.new.rows c.let_some_go.new.rows c.let_some_go-2.new.rows c.args.heard.now c.args.heard.x c.args.heard.c
    c.args.goes c.current-current.result c.in_ok-founding.founding.key
    c.requires.comes.accepted c.requires.comes.asker
    (key_reported c.args.rows.now c.args.heard.now c.args.heard.x c.args.heard.c c.args.case c.args.response.now c.in_ok-founding.founding
    c.in_ok-founding.ensures) c.current-current.ensures
    c.fall_back.ensures.stands c.let_some_go.ensures.stands c.let_some_go-2.ensures.stands
    c.make_room.new.rows (act_list c.args.out.now) (act_list c.make_room.new.out) c.make_room.ensures.gives c.requires.comes.stands

pub put-requires : goal.put-requires
put-requires g c = one_left c.args.rows.now c.fall_back.new.rows c.let_some_go.new.rows c.let_some_go-2.new.rows c.args.heard.now c.args.heard.x
    c.args.heard.c c.args.goes c.current-current.result c.in_ok-founding.founding.key
    c.requires.comes.accepted c.requires.comes.asker
    (key_reported c.args.rows.now c.args.heard.now c.args.heard.x c.args.heard.c c.args.case c.args.response.now c.in_ok-founding.founding
    c.in_ok-founding.ensures) c.current-current.ensures
    c.fall_back.ensures.stands c.let_some_go.ensures.stands c.let_some_go-2.ensures.stands
    c.requires.comes.stands (spare c.args.out.now) (spare c.make_room.new.out) c.requires.room c.make_room.ensures.room

pub returns-clause-answers : goal.returns-clause-answers
returns-clause-answers g c =
    λ limits t w facts stands goes row is doomless same. refused c.args.rows.now c.fall_back.new.rows c.let_some_go.new.rows c.let_some_go-2.new.rows
    c.args.heard.now c.args.heard.x c.args.heard.c c.args.goes c.current-current.result c.in_ok-founding.founding.key
    c.requires.comes.accepted c.requires.comes.asker
    (key_reported c.args.rows.now c.args.heard.now c.args.heard.x c.args.heard.c c.args.case c.args.response.now c.in_ok-founding.founding
    c.in_ok-founding.ensures) c.current-current.ensures
    c.fall_back.ensures.stands c.let_some_go.ensures.stands c.let_some_go-2.ensures.stands
    c.make_room.new.rows (act_list c.args.out.now) (act_list c.make_room.new.out) c.make_room.ensures.gives
    (c.make_room.ensures.exchanges ∙ (c.let_some_go-2.ensures.exchanges ∙ (c.let_some_go.ensures.exchanges ∙ c.fall_back.ensures.rest.exchanges)))
    c.args.case c.requires.founds.case_is c.args.response.now c.in_ok-founding.founding t facts stands w goes row is same
    c.found_with.new.rows c.have_answer.new.rows c.in-Err.error c.in-Ok-Ok.kind (act_list c.put.new.out) c.in-Ok-Ok.ensures.lost c.found_with.result
    c.in-Err.is c.in-Err.ensures.err c.found_with.ensures.within
    c.found_with.ensures.cause
    (c.make_room.ensures.faults ∙ (c.let_some_go-2.ensures.faults ∙ (c.let_some_go.ensures.faults ∙ c.fall_back.ensures.rest.faults)))
    c.have_answer.ensures.faults
    c.have_answer.ensures.stands c.put.ensures.acts

pub returns-in_default-clause-answers : goal.returns-in_default-clause-answers
returns-in_default-clause-answers g c =
    λ limits t w facts stands goes row is doomless same. taken c.args.rows.now c.fall_back.new.rows c.let_some_go.new.rows c.let_some_go-2.new.rows
    c.args.heard.now c.args.heard.x c.args.heard.c c.args.goes c.current-current.result c.in_ok-founding.founding.key
    c.requires.comes.accepted c.requires.comes.asker
    (key_reported c.args.rows.now c.args.heard.now c.args.heard.x c.args.heard.c c.args.case c.args.response.now c.in_ok-founding.founding
    c.in_ok-founding.ensures) c.current-current.ensures
    c.fall_back.ensures.stands c.let_some_go.ensures.stands c.let_some_go-2.ensures.stands
    c.make_room.new.rows (act_list c.args.out.now) (act_list c.make_room.new.out) c.make_room.ensures.gives
    (c.make_room.ensures.exchanges ∙ (c.let_some_go-2.ensures.exchanges ∙ (c.let_some_go.ensures.exchanges ∙ c.fall_back.ensures.rest.exchanges)))
    c.args.case c.requires.founds.case_is c.args.response.now c.in_ok-founding.founding t facts stands w goes row is same
    c.found_with.new.rows (shelf_of c.args.rows.now.entries).faults c.in_ok-founding.ensures c.in_default.ensures.ok c.found_with.result
    c.in_default.field-0 c.in_default.is c.found_with.ensures.within
