pub mod Rows
pub mod Worked
pub mod Cases
pub mod laws
