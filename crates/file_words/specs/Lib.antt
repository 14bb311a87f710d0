pub mod Lines
pub mod Words
pub mod Names
pub mod Numbers
pub mod Texts
pub mod Pairs
pub mod Lengths
pub mod Shown
