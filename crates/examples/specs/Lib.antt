pub mod Books
pub mod Scores
pub mod Examples
