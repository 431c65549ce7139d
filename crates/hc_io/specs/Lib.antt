pub mod Faults
pub mod Sink
pub mod Writes
pub mod Source
pub mod Reads
pub mod Memory
pub mod Adapters
