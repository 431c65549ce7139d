use Rattle.std.proofs.Common.{◌≡◌, ◌-◌, arith}
use Rattle.hc_store.specs.{Entries.{slots_of}, Slots.{weigh, weight}}
use Rattle.hc_store.proofs.Weights.{weight-gone}
use Rattle.hc_store.proofs.memory.MemoryBackend.drop_slot.Goals as goal

pub overflow_sub-self : goal.overflow_sub-self
overflow_sub-self c =
    let gone = weight-gone (slots_of c.args.self.now.entries) (slots_of c.forget_in.new.entries) c.args.slot.n c.forget_in.ensures.number
    c.forget_in.ensures.ok in
    let was : c.args.self.now.used ≡ weight (slots_of c.args.self.now.entries) = c.args.self.now.weighs in
    let is : c.used_by-weight.result ≡ weigh (slots_of c.args.self.now.entries c.args.slot.n) = c.used_by-weight.ensures in
    omega arith

pub invariant_of-self : goal.invariant_of-self
invariant_of-self c =
    let gone = weight-gone (slots_of c.args.self.now.entries) (slots_of c.forget_in.new.entries) c.args.slot.n c.forget_in.ensures.number
    c.forget_in.ensures.ok in
    let was : c.args.self.now.used ≡ weight (slots_of c.args.self.now.entries) = c.args.self.now.weighs in
    let is : c.used_by-weight.result ≡ weigh (slots_of c.args.self.now.entries c.args.slot.n) = c.used_by-weight.ensures in
    let less : c.args.self.now.used - c.used_by-weight.result ≡ weight (slots_of c.forget_in.new.entries) = omega arith in
    record { weighs = less }
