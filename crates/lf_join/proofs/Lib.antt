pub mod Sets
pub mod Further
pub mod Whole
pub mod Suffixes
pub mod Commands
pub mod Joining
