pub mod ShortNames
pub mod Names
