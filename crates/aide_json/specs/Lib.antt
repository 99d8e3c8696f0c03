pub mod Json
pub mod Object
pub mod Value
pub mod Number
pub mod code
