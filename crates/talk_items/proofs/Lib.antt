pub mod Common
pub mod Changes
pub mod Cutting
mod Examples
pub mod Feeds
pub mod Fronts
pub mod LinesMore
pub mod PlainWords
pub mod Scanned
