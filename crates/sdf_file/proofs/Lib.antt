mod Limits
mod Moves
mod Whole
mod Parsed
