pub mod Polygons
pub mod Numbers
