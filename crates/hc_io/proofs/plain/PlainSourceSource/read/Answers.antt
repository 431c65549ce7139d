use Rattle.std.proofs.{Common.{◌≤◌, ◌-◌, length, drop, arith}, lemmas.List.{length-take}}
use Rattle.hc_io.proofs.Givings.{split_left}
use Rattle.hc_io.proofs.plain.PlainSourceSource.read.Goals as goal

pub returns-clause-bytes : goal.returns-clause-bytes
returns-clause-bytes c =
    let bytes = c.self.inside.bytes.items in
    let at = c.self.inside.at in
    let room = length bytes - at in
    let front = rw c.deref.ensures.value at c.copy_prefix-n.ensures.front in
    let within : c.copy_prefix-n.result ≤ room =
    omega (arith, rw c.deref.ensures.value at c.copy_prefix-n.ensures.count, length-take room (drop at bytes)) in
    rw (← c.self.view_is) (split_left bytes _ at room c.copy_prefix-n.result front within)
