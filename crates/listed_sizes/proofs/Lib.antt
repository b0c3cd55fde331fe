pub mod SizeLists
pub mod TextLemmas
pub mod ForcedLemmas
pub mod AnswerLemmas
