pub mod Text
pub mod Write
pub mod Report
pub mod laws
