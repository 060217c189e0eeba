pub mod Places
pub mod Batches
pub mod Smallest
