pub mod MultisetLemmas
pub mod SameLemmas
pub mod CounterLemmas
pub mod MemberLemmas
pub mod SizesLemmas
pub mod AssignmentLemmas
pub mod ListLemmas
pub mod SizeBitsLemmas
