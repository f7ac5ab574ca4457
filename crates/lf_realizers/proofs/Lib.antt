pub mod Returns
pub mod Children
