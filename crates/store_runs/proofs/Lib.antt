pub mod Common
pub mod CountedPlaces
pub mod Folded
mod Numbers
pub mod Machines
