pub mod Drain
pub mod Reach
pub mod Pairs
pub mod AtOnce
pub mod Lent
pub mod laws
