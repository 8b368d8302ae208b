pub mod Tab
pub mod Edit
pub mod Visit
pub mod laws
