pub mod HandedOn
pub mod Sent
pub mod Taken
