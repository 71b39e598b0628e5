pub mod Lines
pub mod Neighbours
