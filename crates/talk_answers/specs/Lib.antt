pub mod Entries
pub mod Lines
pub mod Offers
pub mod Standings
pub mod Tried
