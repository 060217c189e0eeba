pub mod Books
pub mod Ends
pub mod Rooms
pub mod Turns
