pub mod Contents
pub mod Updates
pub mod Openings
pub mod Queries
pub mod Pages
