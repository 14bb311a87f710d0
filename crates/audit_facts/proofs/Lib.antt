pub mod Common
pub mod Words
pub mod NamedForms
pub mod Named
pub mod NamedByLines
pub mod Auditable
