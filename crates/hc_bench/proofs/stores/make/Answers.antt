use Rattle.std.proofs.Common.{ap, ◌∙◌}
use Rattle.hc_record.specs.Plain.{plain}
use Rattle.hc_store.specs.Slots.{Slots, is_live, cells_in}
use Rattle.hc_bench.specs.Stores.{slots_in}
use Rattle.hc_bench.proofs.Live.{bare-live, bare-empty}
use Rattle.hc_bench.proofs.stores.make.Goals as goal

pub returns-clause-live : goal.returns-clause-live
returns-clause-live c =
    ap (λ (s : Slots). is_live s c.in_ok-slot.slot.n) c.in_ok-slot.ensures.ok ∙
    bare-live (slots_in c.args.store.now) c.in_ok-slot.slot.n (plain c.args.head.now)

pub returns-clause-empty : goal.returns-clause-empty
returns-clause-empty c = λ p.
    ap (λ (s : Slots). cells_in s c.in_ok-slot.slot.n p) c.in_ok-slot.ensures.ok ∙
    bare-empty (slots_in c.args.store.now) c.in_ok-slot.slot.n (plain c.args.head.now) p
