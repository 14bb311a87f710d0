pub mod Answering
pub mod Answers
pub mod Held
pub mod States
pub mod Telling
pub mod Trying
pub mod Working
