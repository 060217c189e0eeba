pub mod Paging
pub mod Seeking
pub mod Sinking
pub mod Spending
