pub mod Strings
pub mod Clean
pub mod Pieces
pub mod Printed
pub mod ReadableLaws
pub mod EndLaws
pub mod EntryLaws
pub mod SettingsLaws
pub mod Letters
pub mod Base64
pub mod Bytes
pub mod Laws
pub mod ReadingLaws
pub mod NameLaws
pub mod TextLaws
pub mod Cutting
pub mod CompleteLaws
pub mod JsonLaws
pub mod AccountLaws
pub mod ListLaws
mod FrameLaws
pub mod MapLaws
mod FrontExamples
pub mod RunMapLaws
pub mod Examples
pub mod ListExamples
