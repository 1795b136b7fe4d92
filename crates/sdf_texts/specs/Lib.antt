pub mod Texts
pub mod Schedules
