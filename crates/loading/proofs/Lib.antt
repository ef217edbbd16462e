pub mod Finishing
pub mod Gathering
pub mod Nesting
pub mod Settling
pub mod Whole
