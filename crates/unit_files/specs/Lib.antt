pub mod Alike
pub mod Files
pub mod Items
pub mod Same
