pub mod Taken
pub mod Unknown
