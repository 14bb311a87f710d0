pub mod Common
pub mod Agreement
pub mod Before
pub mod Lengths
pub mod Replays
pub mod OneEntryMore
pub mod Markings
