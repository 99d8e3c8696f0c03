pub mod Run
pub mod code
