pub mod Polygons
pub mod Lengths
