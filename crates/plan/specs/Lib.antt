pub mod Images
pub mod Codes
pub mod Steps
pub mod Queries
pub mod Pages
pub mod Refusals
pub mod Reports
