pub mod CountLemmas
pub mod EditLemmas
pub mod PackableLemmas
pub mod PackingLemmas
pub mod ContentsLemmas
