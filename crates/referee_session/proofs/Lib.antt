pub mod TalkLemmas
pub mod LineLemmas
pub mod AnswerLemmas
pub mod TurnLemmas
pub mod PlayedLemmas
pub mod DueLemmas
