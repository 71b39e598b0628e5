pub mod Entries
pub mod Grid
pub mod Sides
