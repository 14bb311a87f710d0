pub mod Questions
pub mod Shown
pub mod Trials
