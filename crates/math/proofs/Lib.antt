pub mod Whole
pub mod Finite
pub mod Order
pub mod MinMax
pub mod Scaled
