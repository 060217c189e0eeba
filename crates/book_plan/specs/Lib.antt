pub mod Told
pub mod Books
pub mod Totals
pub mod Changes
pub mod Sums
pub mod Kept
pub mod Readings
pub mod Laws
