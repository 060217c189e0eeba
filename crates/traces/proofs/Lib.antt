pub mod Stores
pub mod Books
pub mod Laws
