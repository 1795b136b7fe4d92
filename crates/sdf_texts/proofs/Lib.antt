mod Lines
mod Stretches
