pub mod Trees
pub mod Unchanged
pub mod Scopes
pub mod Suffixes
