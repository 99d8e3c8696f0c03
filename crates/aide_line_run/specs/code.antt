-- Definitions for steps inside the code. No clause of a public call cites them.
pub mod Calls
pub mod Over
pub mod Readings
pub mod Settled
pub mod Tallied
pub mod Walked
pub mod Written
pub mod LineTally
pub mod OneReading
