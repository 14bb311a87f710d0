pub mod Input
pub mod Playing
pub mod Statuses
pub mod Storing
