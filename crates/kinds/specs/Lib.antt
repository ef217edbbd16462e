pub mod Lengths
pub mod Marks
