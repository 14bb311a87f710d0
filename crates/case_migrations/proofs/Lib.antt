pub mod Evolving
pub mod NeverRefused
