-- Laws of what specs/ defines, for the crates above and for proofs. Assumes nothing.
pub mod DrainLaws
pub mod LentLaws
pub mod Pairs
pub mod ReachLaws
pub mod ReachWords
pub mod Turns
