pub mod SameCards
pub mod TouchedNodes
