pub mod Order
pub mod Foot
