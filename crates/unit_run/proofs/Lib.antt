pub mod Common
pub mod Placed
pub mod Each
pub mod Called
pub mod PutBack
