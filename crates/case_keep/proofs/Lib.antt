pub mod Common
mod Outcomes
mod Stepped
