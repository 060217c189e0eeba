pub mod Work
pub mod Stored
pub mod Laws
