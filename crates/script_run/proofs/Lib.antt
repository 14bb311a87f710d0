pub mod Common
pub mod Aging
pub mod Each
pub mod NoInstalls
