-- Laws of what specs/ defines, for the crates above and for proofs. Assumes nothing.
pub mod CommitLaws
pub mod ImageNet
pub mod Members
pub mod Messages
pub mod Refines
pub mod Unchanged
