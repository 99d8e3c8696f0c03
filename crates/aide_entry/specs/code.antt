-- Definitions for steps inside the code. No clause of a public call cites them.
pub mod Codes
pub mod FirstColumns
pub mod ColumnAttrs
pub mod Shapes
