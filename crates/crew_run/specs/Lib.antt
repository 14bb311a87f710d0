pub mod CaseCounts
pub mod Desks
pub mod Crew
pub mod Phases
pub mod Closing
