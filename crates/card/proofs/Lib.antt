pub mod Kept
pub mod Padded
