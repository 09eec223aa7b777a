pub mod ToldTraces
