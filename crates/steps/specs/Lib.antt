pub mod Causes
pub mod Allowances
pub mod Outcomes
