pub mod Common
pub mod Rising
pub mod LastWrite
pub mod Cutting
pub mod Withdrawing
pub mod LateNotes
