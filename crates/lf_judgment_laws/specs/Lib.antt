pub mod InScope
pub mod Growth
pub mod Loose
pub mod Untyped
pub mod Names
pub mod Pure
pub mod Propositions
pub mod Numbers
