mod DatabaseExamples
mod FaultOrderExamples
pub mod LinesLemmas
pub mod ChunkReaderLemmas
pub mod HashLemmas
pub mod PieceLemmas
pub mod Front
pub mod Steps
pub mod Advance
pub mod DrainLemmas
pub mod JudgeLemmas
pub mod KeptLemmas
pub mod Giving
pub mod LongestLemmas
pub mod MapLaws
pub mod TakesLemmas
pub mod FirstFault
pub mod FaultLaws
pub mod FaultOrderLemmas
pub mod FaultExists
pub mod Laws
pub mod KeepingLemmas
pub mod NoEntries
