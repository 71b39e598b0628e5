pub mod Sides
pub mod Corner
