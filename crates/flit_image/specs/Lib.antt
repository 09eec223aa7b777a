pub mod Images
pub mod ImageTexts
pub mod Readings
pub mod Views
pub mod AboutTexts
