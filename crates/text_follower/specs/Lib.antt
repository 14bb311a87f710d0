pub mod Followed
pub mod Grown
