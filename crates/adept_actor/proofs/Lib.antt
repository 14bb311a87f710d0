pub mod Common
pub mod Doing
pub mod Desks
pub mod Acts
pub mod Lines
