-- What the slots of a store in memory hold.
use Rattle.hc_store.specs.declared.memory.Memory.{Memory}
use Rattle.hc_store.specs.Entries.{slots_of}
use Rattle.hc_store.specs.Slots.{Slots}

abbrev pub slots_in : Memory → Slots
slots_in store = slots_of store.entries
