pub mod Search
pub mod Checks
pub mod Whole
pub mod Sides
pub mod Rectangles
pub mod Theorems
pub mod Examples
