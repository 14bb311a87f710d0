pub mod Examples
pub mod LineSplits
pub mod WordSplits
pub mod WordLengths
