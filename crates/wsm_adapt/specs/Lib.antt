pub mod Adapted
pub mod Adapting
pub mod Begun
pub mod Border
pub mod Bounds
pub mod Misfits
pub mod Region
pub mod Walking
