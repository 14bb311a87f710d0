pub mod BranchRules
pub mod Heights
pub mod Sizes
pub mod Clauses
pub mod Order
pub mod Refusals
pub mod Ascents
