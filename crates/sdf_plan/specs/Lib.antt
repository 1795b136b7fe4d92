pub mod Weights
pub mod Placements
pub mod Plans
pub mod Executions
pub mod ParallelPlans
pub mod Schedules
