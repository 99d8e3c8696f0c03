pub mod ListLemmas
pub mod SetLemmas
pub mod SideLemmas
pub mod AgreeLemmas
pub mod Laws
pub mod HappenedLemmas
pub mod TrustedLaws
