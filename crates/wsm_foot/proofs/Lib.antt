pub mod ExamplesFoot
pub mod Least
