pub mod Near
pub mod Sides
