use Rattle.std.proofs.{Common.{◌≡◌, ◌<◌, ◌≤◌, ◌-◌, ◌^◌, ap, ◌∙◌, length, arith}, Math.Logic.{∥∥₁_map}}
use Rattle.hc_effects.proofs.Vocabulary.{event, piece_refusal}
use Rattle.hc_state.specs.Stands.{gate_of, open_at}
use Rattle.hc_on_poll.proofs.Accepted.{start_ascends, poll_lives, poll_wants, cancel_lives, head_free, piece_free, end_free, fault_free}
use Rattle.hc_state.proofs.Kept.{few_kept}
use Rattle.hc_core.proofs.{Standing.{stands_of_runs, stands_by}, Timely.{timely}}
use Rattle.hc_core.proofs.rows.answer.accept.Goals as goal

few_bytes : 2 ^ 61 - 1 < 2 ^ 61
few_bytes = omega arith

pub start-requires-clause-ascending : goal.start-requires-clause-ascending
start-requires-clause-ascending g c =
    start_ascends (gate_of c.args.rows.now (event.Start c.in-Start.c c.in-Start.request)) c.in-Start.c c.in-Start.request
    (rw c.in-Start.is at c.requires.accepted)

pub poll-requires-clause-live : goal.poll-requires-clause-live
poll-requires-clause-live g c =
    poll_lives (gate_of c.args.rows.now (event.Poll c.in-Poll.c c.in-Poll.want)) c.in-Poll.c c.in-Poll.want (rw c.in-Poll.is at c.requires.accepted)

pub poll-requires-clause-wants : goal.poll-requires-clause-wants
poll-requires-clause-wants g c =
    poll_wants (gate_of c.args.rows.now (event.Poll c.in-Poll.c c.in-Poll.want)) c.in-Poll.c c.in-Poll.want (rw c.in-Poll.is at c.requires.accepted)

pub take_head-requires-clause-accepted : goal.take_head-requires-clause-accepted
take_head-requires-clause-accepted g c =
    head_free (gate_of c.args.rows.now (event.Head c.in-Head.x c.in-Head.response)) c.in-Head.x c.in-Head.response (rw c.in-Head.is at c.requires.accepted)

pub take_piece-requires-clause-accepted : goal.take_piece-requires-clause-accepted
take_piece-requires-clause-accepted g c =
    let free = piece_free (gate_of c.args.rows.now (event.Piece c.in-Piece.x c.in-Piece.bytes)) c.in-Piece.x c.in-Piece.bytes
    (rw c.in-Piece.is at c.requires.accepted) in
    ap (λ n. piece_refusal (open_at c.args.rows.now c.in-Piece.x) n) (ap length c.as_slice.ensures) ∙ free

pub end-requires-clause-accepted : goal.end-requires-clause-accepted
end-requires-clause-accepted g c = end_free (gate_of c.args.rows.now (event.End c.in-End.x)) c.in-End.x (rw c.in-End.is at c.requires.accepted)

pub fault-requires-clause-accepted : goal.fault-requires-clause-accepted
fault-requires-clause-accepted g c = fault_free (gate_of c.args.rows.now (event.Fault c.in-Fault.x)) c.in-Fault.x (rw c.in-Fault.is at c.requires.accepted)

pub cancel-requires-clause-live : goal.cancel-requires-clause-live
cancel-requires-clause-live g c = cancel_lives (gate_of c.args.rows.now (event.Cancel c.in-Cancel.c)) c.in-Cancel.c (rw c.in-Cancel.is at c.requires.accepted)

pub take_doom-requires-clause-room : goal.take_doom-requires-clause-room
take_doom-requires-clause-room g c = let few =
    few_kept c.args.rows.now (∥∥₁_map c.requires.stands (λ until. stands_of_runs c.args.rows.now _ few_bytes until.0)) in omega (arith, few)

pub start-requires-clause-stands : goal.start-requires-clause-stands
start-requires-clause-stands g c = ∥∥₁_map c.requires.stands (λ until. stands_of_runs c.args.rows.now _ few_bytes until.0)

pub take_head-requires-clause-stands : goal.take_head-requires-clause-stands
take_head-requires-clause-stands g c = ∥∥₁_map c.requires.stands (λ until. stands_of_runs c.args.rows.now _ few_bytes until.0)

pub take_piece-requires-clause-stands : goal.take_piece-requires-clause-stands
take_piece-requires-clause-stands g c = ∥∥₁_map c.requires.stands (λ until. stands_of_runs c.args.rows.now _ few_bytes until.0)

pub end-requires-clause-stands : goal.end-requires-clause-stands
end-requires-clause-stands g c = ∥∥₁_map c.requires.stands (λ until. stands_of_runs c.args.rows.now _ few_bytes until.0)

pub fault-requires-clause-stands : goal.fault-requires-clause-stands
fault-requires-clause-stands g c = ∥∥₁_map c.requires.stands (λ until. stands_of_runs c.args.rows.now _ few_bytes until.0)

pub cancel-requires-clause-stands : goal.cancel-requires-clause-stands
cancel-requires-clause-stands g c = ∥∥₁_map c.requires.stands (λ until. stands_of_runs c.args.rows.now _ few_bytes until.0)

pub take_doom-requires-clause-stands : goal.take_doom-requires-clause-stands
take_doom-requires-clause-stands g c = ∥∥₁_map c.requires.stands (λ until. stands_of_runs c.args.rows.now _ few_bytes until.0)

pub take_head-requires-clause-timely : goal.take_head-requires-clause-timely
take_head-requires-clause-timely g c = timely c.args.rows.now _ c.in-Head.x c.args.now c.requires.early c.requires.stands

pub take_piece-requires-clause-short : goal.take_piece-requires-clause-short
take_piece-requires-clause-short g c =
    let count : length c.as_slice.result.now ≡ length c.in-Piece.bytes = ap length c.as_slice.ensures in
    let small : length c.in-Piece.bytes ≤ 65536 = rw c.in-Piece.is at c.requires.within_limits in
    omega (arith, count, small)

pub poll-requires-clause-stands : goal.poll-requires-clause-stands
poll-requires-clause-stands g c = ∥∥₁_map c.requires.stands (stands_by c.args.rows.now _ c.args.now few_bytes)
