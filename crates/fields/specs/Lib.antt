pub mod Bytes
pub mod Put
pub mod Rows
pub mod RowPlaces
pub mod Sizes
