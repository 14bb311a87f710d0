pub mod Rows
pub mod Keys
pub mod Values
pub mod Entries
pub mod ByNumber
pub mod TakenIn
pub mod PutOver
