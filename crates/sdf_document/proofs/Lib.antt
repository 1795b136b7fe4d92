mod Names
mod Lists
mod Turns
mod Tables
mod FirstSeen
mod Keys
mod Within
mod Equal
pub mod Theorems
