pub mod Items
pub mod Stores
