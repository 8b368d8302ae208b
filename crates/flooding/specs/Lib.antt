pub mod Network
pub mod Counts
pub mod Machine
pub mod Page
