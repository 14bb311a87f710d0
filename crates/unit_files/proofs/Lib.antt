pub mod Common
pub mod Alike
pub mod Follows
pub mod ItemLines
pub mod Keywords
pub mod Lines
pub mod OneItem
pub mod Units
