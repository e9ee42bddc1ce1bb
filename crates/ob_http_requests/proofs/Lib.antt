pub mod Examples
pub mod HeadLemmas
pub mod ListLemmas
pub mod MessageLemmas
pub mod StartLemmas
pub mod StreamLemmas
pub mod UnreadLemmas
