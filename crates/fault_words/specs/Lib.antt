pub mod FaultWords
pub mod Shown
