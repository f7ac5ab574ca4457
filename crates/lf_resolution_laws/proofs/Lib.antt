pub mod Extended
mod Ends
mod Steady
mod Least
mod Waiting
