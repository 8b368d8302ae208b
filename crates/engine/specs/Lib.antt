pub mod Start
pub mod Run
pub mod RunLaws
pub mod RunCounts
pub mod Alone
pub mod Draining
pub mod Imaging
pub mod laws
