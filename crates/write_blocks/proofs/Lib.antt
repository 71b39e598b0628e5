pub mod Layouts
pub mod Optional
pub mod Standing
pub mod Placed
pub mod Lists
pub mod Parts
