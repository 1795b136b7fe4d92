pub mod Nodes
pub mod Laws
pub mod Collected
pub mod Many
pub mod Kept
