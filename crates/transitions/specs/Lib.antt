pub mod Page
pub mod Receivers
pub mod laws
