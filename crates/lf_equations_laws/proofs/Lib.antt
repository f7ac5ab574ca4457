pub mod Extended
mod Shape
