pub mod Report
pub mod Entries
pub mod Sections
pub mod Given
pub mod Runs
pub mod Agreement
pub mod Missing
