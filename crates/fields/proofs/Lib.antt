pub mod Scanned
pub mod Cut
pub mod Lined
pub mod Numerals
pub mod Parted
