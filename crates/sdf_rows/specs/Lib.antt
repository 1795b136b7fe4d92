pub mod Jobs
pub mod Loading
pub mod RowStates
pub mod Blocks
pub mod Setup
pub mod Collect
