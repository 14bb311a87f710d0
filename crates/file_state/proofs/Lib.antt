pub mod EndLines
pub mod SpacedWords
pub mod PhaseCounts
pub mod RoleNumbers
