use Rattle.std.proofs.Common.{refl}
use Rattle.hc_exch.specs.Exchanges.{table_of}
use Rattle.hc_on_body.proofs.LosePiece.{own_stands}
use Rattle.hc_on_leave.proofs.StoreHandler.{accepted_open}
use Rattle.hc_on_body.proofs.piece.lose_own_piece.Goals as goal

pub returns-clause-lost : goal.returns-clause-lost
returns-clause-lost g c = λ limits t w v may stands.
    let b = may.brings in
    let r = c.args.rows.now in
    let taken = accepted_open (table_of r.exchanges c.args.x).running _ c.requires.may.accepted in
    own_stands c.lose_to.new.rows _ t c.args.now c.args.r c.args.x c.args.bytes.now w v c.args.alone taken.1 may
    (c.lose_to.ensures.lost _ t v b.may b.there b.nobody may.none stands)
    refl refl refl refl c.in_ok-piece.ensures.ok
