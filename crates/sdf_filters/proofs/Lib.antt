mod PhaseSums
mod Mirrored
mod Splits
mod Values
mod Counts
mod Differing
mod Files
mod DelaySums
mod WholeSums
pub mod WideStages
pub mod PartTaps
pub mod TapCounts
