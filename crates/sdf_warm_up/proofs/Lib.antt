mod Pieces
mod Counting
mod Late
mod Forgetting
mod Running
mod KeptSamples
mod Warming
mod Parts
mod Left
mod Walks
mod Passing
pub mod Theorems
