mod Causes
mod CheckJobs
mod LineParts
mod LineComparisons
mod LineEndings
pub mod LineExistence
pub mod LineLaws
