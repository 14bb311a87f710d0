pub mod Sequences
pub mod Drafts
