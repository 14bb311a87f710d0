pub mod Growth
pub mod Work
pub mod Others
