pub mod Damage
pub mod Faults
pub mod Folding
pub mod Standing
