pub mod Common
pub mod Answering
pub mod Fronting
pub mod Opens
pub mod Serves
pub mod Taken
