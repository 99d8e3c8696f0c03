mod Examples
mod ValueExamples
pub mod ShapeLemmas
pub mod KindLemmas
pub mod Order
pub mod SkippedLemmas
pub mod FormLaws
pub mod FieldValues
pub mod AttrLoops
pub mod ColumnAttrLemmas
pub mod ColumnLemmas
pub mod SpecLineLemmas
pub mod FirstColumnLemmas
pub mod JudgedFields
pub mod EntryFaults
