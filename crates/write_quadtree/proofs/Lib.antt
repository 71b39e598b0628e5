pub mod Widths
pub mod Placing
pub mod Dividing
