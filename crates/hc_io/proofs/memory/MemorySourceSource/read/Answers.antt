use Rattle.std.proofs.{Common.{◌≤◌, ◌+◌, ◌-◌, drop, arith}, lemmas.List.{length-take}}
use Rattle.hc_io.proofs.Givings.{split_left}
use Rattle.hc_io.proofs.memory.MemorySourceSource.read.Goals as goal

pub returns-clause-bytes : goal.returns-clause-bytes
returns-clause-bytes c =
    let bytes = c.self.inside.bytes.items in
    let at = c.self.inside.at in
    let room = at + c.min.result - at in
    let front = rw c.deref.ensures.value at c.copy_prefix-n.ensures.front in
    let within : c.copy_prefix-n.result ≤ room =
    omega (arith, c.copy_prefix-n.ensures.count, length-take room (drop at c.deref.result.now)) in
    rw (← c.self.view_is) (split_left bytes _ at room c.copy_prefix-n.result front within)
