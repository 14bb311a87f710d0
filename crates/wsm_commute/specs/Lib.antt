pub mod Merging
pub mod Ordered
pub mod Refusals
pub mod Sweep
