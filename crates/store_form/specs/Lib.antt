pub mod Given
pub mod Payload
pub mod Reading
pub mod Shrinking
pub mod Stored
