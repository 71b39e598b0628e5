pub mod Items
pub mod Listed
