pub mod FollowsLemmas
pub mod EscapesLemmas
pub mod MemberLemmas
pub mod PlainLemmas
pub mod ItemLemmas
