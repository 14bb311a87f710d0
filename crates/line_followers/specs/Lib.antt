pub mod Follows
pub mod Turns
pub mod Filled
pub mod Rests
pub mod Numbered
