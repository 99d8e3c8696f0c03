pub mod Rights
pub mod Settings
pub mod Writers
pub mod LeftOut
pub mod Meaning
