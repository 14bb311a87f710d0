pub mod Offered
pub mod Told
