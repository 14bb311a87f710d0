pub mod Records
pub mod Forms
pub mod Places
pub mod Shown
pub mod Told
