-- A pointer may go to another thread, since a session may, and the heap frees a block on any thread.
use Rattle.std.{specs.{Prelude.{Option, Some, None}, declared.alloc.Global.{Global}}, proofs.Crossing.{frees}}
use mir.Raw.{raw}
use base.Shift.{Keyless}
use denote.Memory.{lone}
use denote.RawPtr.{Ptr}
use denote.Param.Send.{IsSend, owning_send, sendable}
use Rattle.std_alloc.proofs.SendSync.{lies}
use Rattle.hc_handle.specs.{Pointers.{pointer_owns}, contracts.pointer.SessionPointer.{the_row, the_type}}
use Rattle.hc_handle.specs.contracts.session.Session as session
use Rattle.hc_handle.proofs.session.Session.TheSendSync.{the_send}

owns_keyless : (a : Global) (p : Ptr) (m : Option session.the_row.Denot) → Keyless (pointer_owns session.the_row p m)
owns_keyless a p None = tt
owns_keyless a p (Some x) = (lies session.the_row the_send p x, frees.frees a (raw (lone session.the_row.mir)) p)

pub send : IsSend the_row
send = owning_send the_type (search sendable, tt) (λ d. owns_keyless _ d.at d.session) (λ k x w. tt)
