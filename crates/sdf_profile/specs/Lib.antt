pub mod Costs
pub mod Times
pub mod Places
pub mod Written
pub mod Profiles
