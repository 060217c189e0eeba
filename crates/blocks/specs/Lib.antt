pub mod Refusals
pub mod Media
pub mod Memory
pub mod Faulty
