pub mod Cut
pub mod Sides
pub mod Refusals
pub mod Examples
