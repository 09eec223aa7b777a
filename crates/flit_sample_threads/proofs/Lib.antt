pub mod Rights
