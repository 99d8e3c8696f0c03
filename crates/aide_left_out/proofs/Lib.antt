pub mod AtLemmas
pub mod NameLemmas
pub mod BoolLemmas
pub mod RightLemmas
pub mod WriterLemmas
pub mod LineLemmas
pub mod ChangeLemmas
pub mod Laws
