pub mod Replies
pub mod Output
