pub mod Lines
pub mod Subtrees
