use Rattle.hc_event.specs.declared.act.Act.{Act}
use Rattle.std.proofs.Common.{◌≡◌, ℕ, List, subst, sym}
use Rattle.hc_binary.specs.{Numbers.{bytes_of}, Copies.{HoldsPrefix}}
use Rattle.hc_binary.proofs.Rooms.{holds_from}
use Rattle.hc_binary.proofs.copies.copy_act.Goals as goal

at_act : (room : List ℕ) (n : ℕ) (a b : Act) → a ≡ b → HoldsPrefix room n (bytes_of b) → HoldsPrefix room n (bytes_of a)
at_act room n a b is h = subst (λ (x : Act). HoldsPrefix room n (bytes_of x)) (sym is) h

pub returns-in-Opened : goal.returns-in-Opened
returns-in-Opened c = at_act _ _ _ _ c.in-Opened.is (holds_from _ _ _ _ c.put_request.ensures.puts)

pub returns-in-Shown : goal.returns-in-Shown
returns-in-Shown c = at_act _ _ _ _ c.in-Shown.is (holds_from _ _ _ _ c.put_lines.ensures.puts)

pub returns-in-Given : goal.returns-in-Given
returns-in-Given c = at_act _ _ _ _ c.in-Given.is (rw c.as_slice.ensures at (holds_from _ _ _ _ c.put.ensures.puts))
