pub mod Bridge
pub mod Answer
pub mod Deep
pub mod Cut
pub mod Parts
pub mod Covered
