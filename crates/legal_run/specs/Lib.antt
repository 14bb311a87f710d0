pub mod LineCalls
pub mod Legal
