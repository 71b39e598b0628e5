pub mod Layout
pub mod Laid
pub mod Optional
pub mod Lists
pub mod ListRoom
pub mod Placed
