pub mod Polygons
pub mod Passes
