use Rattle.std.{proofs.Common.{◌≡◌, inl, inr, Bool, true, false, refl, ◌∙◌, sym, ap, subst}, specs.Prelude.{not, is_some}}
use Rattle.hc_effects.proofs.Vocabulary.{act_list}
use Rattle.hc_exch.specs.{Exchanges.{table_of, Becomes}, Known.{with_piece}}
use Rattle.hc_on_body.proofs.LosePiece.{stays_so, closes_it}
use Rattle.hc_on_leave.proofs.StoreHandler.{accepted_open}
use Rattle.hc_on_body.proofs.piece.lose_shared_piece.Goals as goal

pub returns-then-is_some-clause-lost : goal.returns-then-is_some-clause-lost
returns-then-is_some-clause-lost g c = λ limits t w v may stands.
    let r = c.args.rows.now in
    let taken = accepted_open (table_of r.exchanges c.args.x).running _ c.requires.may.accepted in
    let lost = c.lose_shared-detached_reader.ensures.lost _ t v may.shared stands in
    let some : is_some c.lose_shared-detached_reader.result ≡ true = sym c.is_some-2.ensures ∙ c.if-is_some.true in
    stays_so c.lose_shared-detached_reader.new.rows _ t c.args.now c.args.r c.args.x c.args.bytes.now w v c.args.kind taken.1 may
    c.lose_shared-detached_reader.result lost.detached_reader_is lost.rows refl refl refl refl
    (subst (λ (b : Bool). Becomes (with_piece c.args.bytes.now b) c.args.x c.lose_shared-detached_reader.new.rows.exchanges c.piece.new.self)
    c.is_some.ensures c.in_ok-over.ensures.ok)
    (act_list c.args.out.now) (act_list c.lose_shared-detached_reader.new.out) (inl (ap not some)) c.lose_shared-detached_reader.ensures.acts

pub returns-then-not-over-clause-lost : goal.returns-then-not-over-clause-lost
returns-then-not-over-clause-lost g c = λ limits t w v may stands.
    let r = c.args.rows.now in
    let taken = accepted_open (table_of r.exchanges c.args.x).running _ c.requires.may.accepted in
    let lost = c.lose_shared-detached_reader.ensures.lost _ t v may.shared stands in
    let none : is_some c.lose_shared-detached_reader.result ≡ false = sym c.is_some-2.ensures ∙ c.if-is_some.false in
    closes_it c.lose_shared-detached_reader.new.rows _ t c.args.now c.args.r c.args.x c.args.bytes.now w v c.args.kind taken.1 may
    c.lose_shared-detached_reader.result lost.detached_reader_is lost.rows refl refl refl refl
    (subst (λ (b : Bool). Becomes (with_piece c.args.bytes.now b) c.args.x c.lose_shared-detached_reader.new.rows.exchanges c.piece.new.self)
    c.is_some.ensures c.in_ok-over.ensures.ok)
    c.close.new.rows (ap not none) (sym c.in_ok-over.ensures.over ∙ c.if-not-over.true) c.close.ensures.rest c.close.ensures.consumers c.close.ensures.closed
    (act_list c.args.out.now) (act_list c.lose_shared-detached_reader.new.out) (act_list c.close.new.out) c.lose_shared-detached_reader.ensures.acts
    c.close.ensures.acts

pub returns-else-not-over-clause-lost : goal.returns-else-not-over-clause-lost
returns-else-not-over-clause-lost g c = λ limits t w v may stands.
    let r = c.args.rows.now in
    let taken = accepted_open (table_of r.exchanges c.args.x).running _ c.requires.may.accepted in
    let lost = c.lose_shared-detached_reader.ensures.lost _ t v may.shared stands in
    let none : is_some c.lose_shared-detached_reader.result ≡ false = sym c.is_some-2.ensures ∙ c.if-is_some.false in
    stays_so c.lose_shared-detached_reader.new.rows _ t c.args.now c.args.r c.args.x c.args.bytes.now w v c.args.kind taken.1 may
    c.lose_shared-detached_reader.result lost.detached_reader_is lost.rows refl refl refl refl
    (subst (λ (b : Bool). Becomes (with_piece c.args.bytes.now b) c.args.x c.lose_shared-detached_reader.new.rows.exchanges c.piece.new.self)
    c.is_some.ensures c.in_ok-over.ensures.ok)
    (act_list c.args.out.now) (act_list c.lose_shared-detached_reader.new.out) (inr (ap not none, sym c.in_ok-over.ensures.over ∙ c.if-not-over.false))
    c.lose_shared-detached_reader.ensures.acts
