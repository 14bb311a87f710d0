pub mod Positions
pub mod NextEntry
pub mod Agains
pub mod Markings
