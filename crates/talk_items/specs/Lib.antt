pub mod Cuts
pub mod Fronts
pub mod Items
pub mod Keywords
pub mod Scans
