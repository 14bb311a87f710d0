pub mod Facts
pub mod Growing
pub mod Taking
pub mod Units
