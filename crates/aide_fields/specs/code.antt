-- Definitions for steps inside the code. No clause of a public call cites them.
pub mod Symbols
pub mod TimeDigits
pub mod Runs
