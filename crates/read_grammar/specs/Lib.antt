pub mod Parts
pub mod Trees
pub mod Lists
pub mod Polygons
pub mod Derives
pub mod Formed
pub mod Vehicle
