pub mod Calls
pub mod Entries
pub mod Oldest
pub mod Parts
pub mod Serial
pub mod Verdicts
pub mod CaseEnds
