pub mod Predict
pub mod Viable
pub mod Follow
pub mod Found
pub mod Kept
pub mod Closing
pub mod Grammar
pub mod Document
