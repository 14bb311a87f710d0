pub mod Words
pub mod Names
pub mod Migrations
pub mod Totals
