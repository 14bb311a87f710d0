pub mod Common
mod Calling
mod Cells
pub mod Changes
pub mod Empty
mod Folds
pub mod Staying
mod Weights
