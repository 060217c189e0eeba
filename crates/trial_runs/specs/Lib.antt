pub mod Orders
pub mod Costs
pub mod Digests
pub mod Made
