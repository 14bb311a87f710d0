pub mod Common
mod ShortLines
mod LineRoom
