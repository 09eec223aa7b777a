pub mod PlacedRuns
pub mod SourceLaws
pub mod WantedTexts
