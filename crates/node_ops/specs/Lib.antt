pub mod CodeOf
pub mod Spans
