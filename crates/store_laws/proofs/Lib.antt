pub mod Images
pub mod Room
pub mod Laws
pub mod Roots
pub mod Openings
pub mod LaidOut
