pub mod TrailWithRoom
pub mod EntryAt
pub mod Cuts
pub mod LastWrites
pub mod Withdrawn
pub mod StartPlaces
