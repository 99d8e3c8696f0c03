-- Definitions for steps inside the code. No clause of a public call cites them.
pub mod Variables
pub mod Replacing
pub mod Expanded
pub mod Bounded
pub mod Returned
pub mod Stack
pub mod Builder
pub mod PlaceFault
