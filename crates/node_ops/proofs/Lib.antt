pub mod Largest
pub mod Crowded
mod Front
