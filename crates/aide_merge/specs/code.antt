-- Definitions for steps inside the code. No clause of a public call of a program cites them.
pub mod BothRead
pub mod ChangeView
pub mod Desks
pub mod Digests
pub mod MergeCalls
pub mod Merging
pub mod NextEntry
pub mod NextPath
pub mod ReadFaults
pub mod Settling
pub mod Starts
pub mod Upcoming
