pub mod Ends
pub mod Arguments
pub mod Alternatives
pub mod Calls
pub mod Premises
pub mod Fields
