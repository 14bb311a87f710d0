pub mod Common
pub mod Pieces
pub mod Reaching
pub mod JournalLines
pub mod Turns
pub mod Dues
pub mod Rests
pub mod Numbered
