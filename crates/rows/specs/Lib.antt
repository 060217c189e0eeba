pub mod Bytes
pub mod Numbers
pub mod Coding
pub mod Tables
pub mod Sorts
pub mod Entries
