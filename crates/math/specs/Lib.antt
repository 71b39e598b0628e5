pub mod MinMax
pub mod Picked
pub mod Floats
