use Rattle.hc_store.proofs.Weights.{cells-there}
use Rattle.hc_store.proofs.memory.MemoryBackend.covers.Goals as goal

pub returns : goal.returns
returns c = rw (cells-there c.args.self.now.entries c.args.slot.n c.entry_at.result.now c.entry_at.ensures) c.covers.ensures
