pub mod Figure
pub mod laws
