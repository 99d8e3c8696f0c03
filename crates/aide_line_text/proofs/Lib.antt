pub mod FormLemmas
pub mod LineLemmas
pub mod ColumnLemmas
pub mod FrameLemmas
mod SettingsLemmas
