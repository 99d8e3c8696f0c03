pub mod Field
pub mod JsonLine
pub mod ByteValues
pub mod Readable
pub mod TextFields
pub mod Reading
pub mod Complete
pub mod OverMaps
