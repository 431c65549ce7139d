use Rattle.std.{proofs.Common.{◌≡◌, ℕ, arith, true, false, Option, Some, None, refl, ap, sym, ◌∙◌}, specs.Prelude.{◌≤◌, Result, Ok, is_some}}
use Rattle.hc_effects.proofs.Vocabulary.{act_list, let_all_go, evicted, LostKind, event}
use Rattle.hc_on_body.proofs.{GrowHandler.{own_answered, shared_answered}, Bringing.{may_bring}}
use Rattle.hc_text.specs.declared.memory.NoMemory.{NoMemory}
use Rattle.hc_on_leave.proofs.{LoseTurn.{writes_it, unwritten}, StoreHandler.{stores_of}}
use Rattle.hc_on_body.proofs.piece.grow.Goals as goal
use Rattle.hc_state.proofs.Words.{ok_then}

reported : (o p : Option LostKind) → o ≡ p → (let one : Result (Option LostKind) NoMemory = Ok o in one) ≡ Ok p
reported o p is = ap (λ (z : Option LostKind). (let one : Result (Option LostKind) NoMemory = Ok z in one)) is

pub lose_shared_piece-requires-clause-may : goal.lose_shared_piece-requires-clause-may
lose_shared_piece-requires-clause-may g c =
    let refused = c.in_ok-store_piece.ensures.refused c.in-Some.kind (reported c.in_ok-store_piece.field-0 (Some c.in-Some.kind) c.in-Some.is) in
    may_bring c.args.rows.now _ c.args.x c.args.r _ _ c.requires.comes refused.exchanges refused.there

pub lose_own_piece-requires-clause-may : goal.lose_own_piece-requires-clause-may
lose_own_piece-requires-clause-may g c =
    let refused = c.in_ok-store_piece.ensures.refused c.in-Some.kind (reported c.in_ok-store_piece.field-0 (Some c.in-Some.kind) c.in-Some.is) in
    may_bring c.args.rows.now _ c.args.x c.args.r _ _ c.requires.comes refused.exchanges refused.there

some_one : (o : Option ℕ) → is_some o ≡ true → (y : ℕ) × (o ≡ Some y)
some_one None on = absurd (let never : false ≡ true = on in cc)
some_one (Some y) on = (y, refl)

none_at : (o : Option ℕ) → is_some o ≡ false → o ≡ None
none_at None off = refl
none_at (Some y) off = absurd (let never : true ≡ false = off in cc)

from_same : {a b : ℕ} → b ≡ a → a ≤ b
from_same is = omega (arith, is)

pub returns-in-Some-clause-answers : goal.returns-in-Some-clause-answers
returns-in-Some-clause-answers g c = ok_then c.lose_shared_piece.result c.lose_shared_piece.ensures.lost (λ lost limits t facts stands goes.
    let r = c.args.rows.now in
    let put = c.store_piece.new.rows in
    let refused = c.in_ok-store_piece.ensures.refused c.in-Some.kind (reported c.in_ok-store_piece.field-0 (Some c.in-Some.kind) c.in-Some.is) in
    let it = stores_of r t facts c.args.x c.args.r c.args.bytes.now stands goes c.requires.comes.stored in
    let there = sym (ap t.representation it.of_q) ∙ it.there in
    let writes = some_one c.writer_group.result (sym c.is_some-writer_group.ensures ∙ c.if-writer_group.true) in
    let on = (writes_it r t facts stands c.args.r it.v there writes.0 (sym c.writer_group.ensures ∙ writes.1)).0 in
    shared_answered r put t facts stands c.args.now c.args.x c.args.r c.args.bytes.now goes it c.in-Some.kind (act_list c.args.out.now)
    (act_list c.store_piece.new.out) (refused.refuses _ t facts stands goes) on
    c.lose_shared_piece.new.rows (act_list c.lose_shared_piece.new.out)
    (λ may stood. lost _ (let_all_go c.args.now (evicted limits t c.args.now (event.Piece c.args.x c.args.bytes.now)) t) it.w it.v may stood)
    (from_same c.lose_shared_piece.ensures.faults))

pub returns-in-Some-2-clause-answers : goal.returns-in-Some-2-clause-answers
returns-in-Some-2-clause-answers g c = ok_then c.lose_own_piece.result c.lose_own_piece.ensures.lost (λ lost limits t facts stands goes.
    let r = c.args.rows.now in
    let put = c.store_piece.new.rows in
    let refused = c.in_ok-store_piece.ensures.refused c.in-Some.kind (reported c.in_ok-store_piece.field-0 (Some c.in-Some.kind) c.in-Some.is) in
    let it = stores_of r t facts c.args.x c.args.r c.args.bytes.now stands goes c.requires.comes.stored in
    let there = sym (ap t.representation it.of_q) ∙ it.there in
    let off = unwritten r t facts stands c.args.r it.v there
    (sym c.writer_group.ensures ∙ none_at c.writer_group.result (sym c.is_some-writer_group.ensures ∙ c.if-writer_group.false)) in
    own_answered r put t facts stands c.args.now c.args.x c.args.r c.args.bytes.now goes it c.in-Some.kind (act_list c.args.out.now)
    (act_list c.store_piece.new.out) (refused.refuses _ t facts stands goes) off
    c.exclusive-alone.result (c.exclusive-alone.ensures _ t it.v facts stands there it.fresh)
    c.lose_own_piece.new.rows (act_list c.lose_own_piece.new.out)
    (λ may stood. lost _ (let_all_go c.args.now (evicted limits t c.args.now (event.Piece c.args.x c.args.bytes.now)) t) it.w it.v may stood)
    c.lose_own_piece.ensures.acts (from_same c.lose_own_piece.ensures.faults))
