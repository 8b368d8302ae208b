-- Laws of what specs/ defines, for the crates above and for proofs. Assumes nothing.
pub mod Algebra
pub mod Any
pub mod Bools
pub mod Bounds
pub mod Build
pub mod Counts
pub mod Examples
pub mod Least
pub mod Lowest
pub mod Members
pub mod Rising
pub mod Sizes
pub mod Subsets
pub mod Sums
pub mod Visits
