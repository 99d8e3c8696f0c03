-- Definitions for steps inside the code. No clause of a public call cites them.
pub mod Follows
pub mod Plain
pub mod Escaping
pub mod Spelled
pub mod Items
pub mod EscapedRest
pub mod Base16Rest
