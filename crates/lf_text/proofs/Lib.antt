pub mod Examples
pub mod StartsLemmas
