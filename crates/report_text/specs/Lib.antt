pub mod Journals
pub mod Ends
pub mod Report
pub mod Check
