pub mod Plain
pub mod Laws
pub mod Totals
