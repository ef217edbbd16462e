pub mod Graph
pub mod Settled
pub mod Deletion
pub mod GrammarGraph
pub mod Places
pub mod Books
pub mod Theorems
