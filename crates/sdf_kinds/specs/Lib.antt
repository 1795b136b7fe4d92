pub mod Keys
pub mod Rows
pub mod Listing
pub mod Ports
