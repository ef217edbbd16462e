pub mod Chains
pub mod Reading
pub mod Tables
pub mod Theorems
pub mod Faults
