pub mod Views
pub mod Steps
pub mod Law
pub mod Runs
