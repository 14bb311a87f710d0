pub mod Numbering
pub mod Versions
