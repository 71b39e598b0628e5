pub mod Picking
pub mod Axes
pub mod Answers
pub mod Rectangles
