pub mod Limits
pub mod Faults
pub mod Printable
pub mod Words
