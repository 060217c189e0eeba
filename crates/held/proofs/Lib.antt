pub mod Tables
pub mod Fits
pub mod Laws
