pub mod Common
mod Additions
pub mod Held
mod Matching
mod Opened
