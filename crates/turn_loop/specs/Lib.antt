pub mod Counting
pub mod Groups
pub mod Serving
pub mod Statuses
pub mod Talk
pub mod Turns
pub mod Waiting
