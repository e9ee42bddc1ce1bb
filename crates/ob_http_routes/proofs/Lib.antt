pub mod AnsweringLemmas
pub mod Found
pub mod Planning
pub mod ServingLemmas
pub mod AnswerLaws
