pub mod Broadcast
pub mod Commit
pub mod Page
pub mod Unchanged
