pub mod Set
pub mod Sums
pub mod Any
pub mod Least
pub mod Rising
