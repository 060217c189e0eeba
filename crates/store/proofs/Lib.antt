pub mod Tables
pub mod Wearing
