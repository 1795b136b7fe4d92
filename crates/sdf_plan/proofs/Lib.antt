mod Lists
mod Deadlocks
mod Suiting
mod Weighing
mod Placing
mod Tabling
mod Alone
mod Priced
