pub mod Answer
pub mod SameSpots
pub mod SpotOf
