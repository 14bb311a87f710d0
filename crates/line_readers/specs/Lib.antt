pub mod Readers
pub mod FirstWrong
pub mod Owed
pub mod Journals
pub mod Walks
