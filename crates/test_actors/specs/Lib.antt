pub mod Twice
pub mod Rows
