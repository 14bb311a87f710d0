pub mod Escapes
pub mod Rows
