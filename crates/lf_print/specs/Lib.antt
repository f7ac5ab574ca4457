pub mod Mark
pub mod Operators
pub mod Printed
pub mod Pieces
pub mod Forms
pub mod Told
