pub mod Common
pub mod Reports
pub mod Asked
pub mod Printed
pub mod ReportReader
pub mod Kept
pub mod Journaled
