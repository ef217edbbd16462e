pub mod Checking
pub mod Outcomes
pub mod Trees
pub mod Theorems
pub mod Laws
pub mod Faults
