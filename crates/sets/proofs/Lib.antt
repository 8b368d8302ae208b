pub mod Words
pub mod laws
