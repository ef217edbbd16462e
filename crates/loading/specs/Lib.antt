pub mod Views
pub mod Checks
pub mod Drafts
pub mod Loading
