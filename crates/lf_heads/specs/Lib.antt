pub mod Verdicts
pub mod Returned
pub mod Kernels
pub mod Settings
pub mod Asked
pub mod Behind
