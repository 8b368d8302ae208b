-- Laws of what specs/ defines, for the crates above and for proofs. Assumes nothing.
pub mod Edit
pub mod Tab
pub mod Visit
