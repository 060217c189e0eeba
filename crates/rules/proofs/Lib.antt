pub mod Passes
pub mod Verdicts
pub mod Fields
