pub mod KindModel
pub mod Machine
