pub mod Views
pub mod Blocks
pub mod Checks
pub mod Roots
pub mod Laws
pub mod Shapes
