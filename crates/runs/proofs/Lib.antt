mod Went
mod Formats
