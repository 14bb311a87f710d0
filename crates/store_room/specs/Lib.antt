pub mod Groups
pub mod Room
