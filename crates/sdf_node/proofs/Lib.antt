mod Nodes
mod Stepping
mod Collected
mod Joined
mod ManyFirings
mod Keeping
pub mod Theorems
