pub mod Account
pub mod Attribute
pub mod Entry
pub mod Ends
pub mod Frame
pub mod ReadView
pub mod Settings
pub mod code
