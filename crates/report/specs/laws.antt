-- Laws of what specs/ defines, for the crates above and for proofs. Assumes nothing.
pub mod Examples
pub mod Settled
pub mod TextLaws
