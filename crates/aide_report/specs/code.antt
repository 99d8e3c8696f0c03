-- Definitions for steps inside the code. No clause of a public call cites them.
pub mod Counts
pub mod PassFaults
pub mod GivenDigests
pub mod Finding
pub mod LaterFault
pub mod Passes
pub mod Flushes
pub mod Readings
