pub mod Refusals
pub mod Unknowns
pub mod Sets
pub mod Tables
pub mod Passes
pub mod TestSchemas
