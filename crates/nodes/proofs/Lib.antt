pub mod Written
pub mod Loaded
pub mod TablesBack
pub mod RoundTrips
