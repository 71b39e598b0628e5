pub mod Vertices
pub mod Table
