pub mod Common
pub mod Counted
pub mod GivenIf
pub mod Last
pub mod Offered
pub mod Tried
