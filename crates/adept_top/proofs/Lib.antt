pub mod Endings
pub mod Got
