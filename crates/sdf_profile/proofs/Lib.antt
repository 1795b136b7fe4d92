mod FirstLines
mod Pieces
mod Profiled
mod Ranges
mod Unread
