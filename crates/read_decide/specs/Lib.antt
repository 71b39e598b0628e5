pub mod Reading
pub mod Answer
pub mod Deciding
