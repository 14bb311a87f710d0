mod Reading
mod Finding
mod Fields
mod Spacing
pub mod Counts
mod Examples
