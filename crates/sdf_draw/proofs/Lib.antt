mod Greatest
mod Deep
mod Escapes
mod Joined
mod Apart
mod Lowest
mod Known
mod Drawable
