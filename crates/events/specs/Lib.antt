pub mod Event
pub mod Kind
pub mod Reader
pub mod Writing
pub mod Fits
pub mod laws
