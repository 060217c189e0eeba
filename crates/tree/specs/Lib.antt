pub mod Limits
pub mod Nodes
pub mod Lookup
pub mod Operations
pub mod Update
pub mod Query
pub mod Shape
pub mod Laws
