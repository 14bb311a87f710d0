pub mod Common
mod Entries
mod ExamplesDisks
mod ExamplesImages
pub mod Framing
mod Gates
pub mod Groups
mod Histories
pub mod Moments
mod Noted
mod Steps
mod Stops
