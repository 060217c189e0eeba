pub mod Parts
pub mod Told
pub mod Handed
pub mod Taken
pub mod Laws
