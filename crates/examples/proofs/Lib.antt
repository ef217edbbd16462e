pub mod Grammars
pub mod Numbers
pub mod Sets
pub mod Ring
pub mod Score
pub mod Whole
