pub mod AsksForLines
pub mod GivenList
pub mod LineAnswer
pub mod LineEnds
pub mod LineSession
pub mod SettingsTold
pub mod code
