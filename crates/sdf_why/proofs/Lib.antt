mod Chains
mod Rounds
mod Items
mod Lines
mod Roots
mod Edges
mod Grown
mod Forms
mod Lists
pub mod Theorems
