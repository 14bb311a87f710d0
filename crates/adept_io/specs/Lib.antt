pub mod Counts
pub mod Gathered
pub mod Memory
pub mod Read
pub mod Standard
pub mod Written
