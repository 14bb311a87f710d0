pub mod Common
pub mod Ending
mod Examples
pub mod Going
pub mod Kept
pub mod Scanned
pub mod Splits
pub mod Stored
pub mod Turning
pub mod InTurns
pub mod Worked
