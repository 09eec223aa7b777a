pub mod LawfulImages
