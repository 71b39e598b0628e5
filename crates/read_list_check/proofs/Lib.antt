pub mod ReadList
