use Rattle.hc_sockets.specs.Sockets.{KeepsStage}
use Rattle.hc_sockets.proofs.socket.Socket.send_down_to.Given as goal

abbrev pub invariant-loop : goal.invariant-loop
invariant-loop l = KeepsStage l.fn.self l.self
