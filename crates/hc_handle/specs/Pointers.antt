-- What the pointer of a session owns: where there is a session, its box.
use base.Fml.{Fml, ftrue}
use base.Stored.{Coded}
use denote.RattleType.{RattleType}
use denote.RawPtr.{Ptr}
use Rattle.std.specs.Prelude.{Option, Some, None, Bool, true, false}
use Rattle.std.specs.Box.Ownership.{box_owns}
use Rattle.std.specs.Coded.{coded_option}
use Rattle.libc.specs.Heap.{chunk}
use Rattle.hc_handle.specs.declared.session.Session.{Session}
use Rattle.hc_handle.specs.contracts.session.Session.{the_row}

abbrev pub pointer_owns : (R : RattleType) → Ptr → Option R.Denot → Fml
pointer_owns R p None = ftrue
pointer_owns R p (Some x) = box_owns chunk R p x

-- by which a proof tells such values apart
abbrev pub session_code : Coded (Option Session)
session_code = coded_option the_row.coded

abbrev pub has_session : Option Session → Bool
has_session None = false
has_session (Some x) = true
