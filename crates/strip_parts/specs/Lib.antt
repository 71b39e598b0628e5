pub mod Boxed
pub mod BoxedCell
pub mod Halves
