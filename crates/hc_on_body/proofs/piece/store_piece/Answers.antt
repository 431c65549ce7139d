use Rattle.std.{proofs.Common.{◌≡◌, ◌+◌, length, false, Option, Some, refl, ap, sym, ◌∙◌, subst, arith}, specs.Prelude.{Result, Ok, Err, is_some}}
use Rattle.hc_sparse.specs.Cells.{size}
use Rattle.hc_effects.proofs.Vocabulary.{act_list, spare, LostKind, write}
use Rattle.hc_stored.specs.{Entries.{shelf_of}, Kept.{Kept}, Shelf.{size_at}}
use Rattle.hc_exch.specs.{declared.exchanges.Exchanges.{Exchanges}, Exchanges.{table_of, Becomes}, Known.{with_piece, EndsBelow}}
use Rattle.hc_text.specs.declared.memory.NoMemory.{NoMemory}
use Rattle.hc_store.specs.declared.error.StoreError.{StoreError}
use Rattle.hc_state.specs.Room.{loss_by}
use Rattle.hc_text.proofs.Basics.{same_some as same_row}
use Rattle.hc_on_body.proofs.{Bringing.{comes_below, may_bring}, FewActs.{has_few, leaves_two}}
use Rattle.hc_on_leave.proofs.{RefusedPiece.{refused_by}, StoreHandler.{kept_of, kept_mid, absent_mid, answered_mid, refused_mid}}
use Rattle.hc_on_body.proofs.piece.store_piece.Goals as goal

pub make_room-requires : goal.make_room-requires
make_room-requires g c =
    let short = c.requires.comes.short in
    let room = c.requires.room in
    record {
      fits = has_few c.args.rows.now (write.Piece c.unwrap-entry.result.size (length c.args.bytes.now)) (omega (arith, short))
          c.requires.comes.stands (spare c.args.out.now) (omega (arith, room));
    }

pub put_piece-requires-clause-may : goal.put_piece-requires-clause-may
put_piece-requires-clause-may g c =
    let r = c.args.rows.now in
    let k = kept_of ((shelf_of r.entries).kept c.args.r) c.unwrap-entry.result (sym c.entry.ensures ∙ c.unwrap-entry.ensures) in
    let had : (q : Kept) → (shelf_of r.entries).kept c.args.r ≡ Some q → c.unwrap-entry.result.size ≡ size q.cells = λ q at. k.2 ∙
    ap (λ (z : Kept). size z.cells) (same_row ((shelf_of r.entries).kept c.args.r) k.0 q k.1 at) in
    let made = c.make_room.ensures in
    let there = kept_mid r c.make_room.new.rows c.args.now c.args.x c.args.r c.args.bytes.now c.requires.comes.stands c.requires.comes.accepted
    c.requires.comes.stored (act_list c.args.out.now) (act_list c.make_room.new.out) c.unwrap-entry.result.size had made.gives made.last_start made.exchanges in
    may_bring r c.make_room.new.rows c.args.x c.args.r _ _ c.requires.comes made.exchanges there

pub put_piece-requires-clause-absent : goal.put_piece-requires-clause-absent
put_piece-requires-clause-absent g c =
    let r = c.args.rows.now in
    let k = kept_of ((shelf_of r.entries).kept c.args.r) c.unwrap-entry.result (sym c.entry.ensures ∙ c.unwrap-entry.ensures) in
    let had : (q : Kept) → (shelf_of r.entries).kept c.args.r ≡ Some q → c.unwrap-entry.result.size ≡ size q.cells = λ q at. k.2 ∙
    ap (λ (z : Kept). size z.cells) (same_row ((shelf_of r.entries).kept c.args.r) k.0 q k.1 at) in
    let made = c.make_room.ensures in
    absent_mid r c.make_room.new.rows c.args.now c.args.x c.args.r c.args.bytes.now c.requires.comes.stands c.requires.comes.accepted
    c.requires.comes.stored (act_list c.args.out.now) (act_list c.make_room.new.out) c.unwrap-entry.result.size had made.gives made.last_start made.exchanges

pub piece-requires-clause-below : goal.piece-requires-clause-below
piece-requires-clause-below g c =
    let r = c.args.rows.now in
    subst (λ (e : Exchanges). EndsBelow (length c.args.bytes.now) (table_of e c.args.x).running)
    (sym (c.put_piece.ensures.rest.exchanges ∙ c.make_room.ensures.exchanges)) (comes_below r c.args.x _ _ c.requires.comes)

pub returns-clause-answers : goal.returns-clause-answers
returns-clause-answers g c =
    let r = c.args.rows.now in
    let k = kept_of ((shelf_of r.entries).kept c.args.r) c.unwrap-entry.result (sym c.entry.ensures ∙ c.unwrap-entry.ensures) in
    let had : (q : Kept) → (shelf_of r.entries).kept c.args.r ≡ Some q → c.unwrap-entry.result.size ≡ size q.cells = λ q at. k.2 ∙
    ap (λ (z : Kept). size z.cells) (same_row ((shelf_of r.entries).kept c.args.r) k.0 q k.1 at) in
    let made = c.make_room.ensures in
    let puts = c.put_piece.ensures in
    λ _. answered_mid r c.make_room.new.rows c.args.now c.args.x c.args.r c.args.bytes.now c.requires.comes.stands c.requires.comes.accepted
    c.requires.comes.stored (act_list c.args.out.now) (act_list c.make_room.new.out) c.unwrap-entry.result.size had made.gives made.last_start made.exchanges
    c.put_piece.new.rows _ c.in_default.ensures.ok (c.in_default.ensures.within.ok refl)
    refl puts.rest.last_start puts.rest.consumers puts.rest.keys
    (subst (λ (e : Exchanges). Becomes (with_piece c.args.bytes.now false) c.args.x e c.piece.new.self) puts.rest.exchanges c.in_ok-piece.ensures.ok)

reported_kind : (a b : LostKind) → (let reported : Result (Option LostKind) NoMemory = Ok (Some a) in reported) ≡ Ok (Some b) → a ≡ b
reported_kind a b is = cc

pub returns-in-Err-clause-refused : goal.returns-in-Err-clause-refused
returns-in-Err-clause-refused g c = λ kind is.
    let r = c.args.rows.now in
    let mid = c.make_room.new.rows in
    let put = c.put_piece.new.rows in
    let k = kept_of ((shelf_of r.entries).kept c.args.r) c.unwrap-entry.result (sym c.entry.ensures ∙ c.unwrap-entry.ensures) in
    let had : (q : Kept) → (shelf_of r.entries).kept c.args.r ≡ Some q → c.unwrap-entry.result.size ≡ size q.cells = λ q at. k.2 ∙
    ap (λ (z : Kept). size z.cells) (same_row ((shelf_of r.entries).kept c.args.r) k.0 q k.1 at) in
    let made = c.make_room.ensures in
    let puts = c.put_piece.ensures in
    let short = c.requires.comes.short in
    let loss : loss_by c.in-Err.error ≡ Some kind = c.in_ok-lost_kind.ensures.lost ∙
    ap (λ (z : LostKind). Some z) (reported_kind c.in_ok-lost_kind.field-0 kind is) in
    let kept = kept_mid r mid c.args.now c.args.x c.args.r c.args.bytes.now c.requires.comes.stands c.requires.comes.accepted c.requires.comes.stored
    (act_list c.args.out.now) (act_list c.make_room.new.out) c.unwrap-entry.result.size had made.gives made.last_start made.exchanges in
    record {
      refuses = refused_mid r mid c.args.now c.args.x c.args.r c.args.bytes.now c.requires.comes.stands c.requires.comes.accepted c.requires.comes.stored
          (act_list c.args.out.now) (act_list c.make_room.new.out) c.unwrap-entry.result.size had made.gives made.last_start made.exchanges
          put kind c.in-Err.ensures.err made.faults
          (refused_by (shelf_of mid.entries).limits (size_at (shelf_of mid.entries) c.args.r + length c.args.bytes.now)
          ((shelf_of mid.entries).used + length c.args.bytes.now) (shelf_of mid.entries).faults (shelf_of put.entries).faults
          (let e : Result (Unit {0}) StoreError = Err c.in-Err.error in e) c.in-Err.error kind refl loss c.in-Err.ensures.within c.in-Err.ensures.cause)
          puts.rest.last_start puts.rest.consumers puts.rest.exchanges puts.rest.keys;
      there = ap (λ (o : Option Kept). is_some o) (c.in-Err.ensures.err.kept c.args.r) ∙ kept;
      exchanges = puts.rest.exchanges ∙ made.exchanges;
      room = leaves_two r (write.Piece c.unwrap-entry.result.size (length c.args.bytes.now)) (omega (arith, short)) c.requires.comes.stands
          (spare c.args.out.now) (spare c.make_room.new.out) c.requires.room made.room;
    }
