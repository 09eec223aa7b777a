pub mod Lines
pub mod Machines
pub mod Sentences
pub mod SayLaws
pub mod StepTexts
