-- Definitions for steps inside the code. No clause of a public call of a program cites them.
pub mod Config
pub mod Parts
