pub mod Cases
pub mod Lengths
pub mod Examples
