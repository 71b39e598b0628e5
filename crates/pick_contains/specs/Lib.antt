pub mod Inside
pub mod Vertices
