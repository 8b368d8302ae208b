-- Laws of what specs/ defines, for the crates above and for proofs. Assumes nothing.
pub mod Count
pub mod Course
pub mod Drain
pub mod Floods
pub mod Levels
pub mod Loop
pub mod Machine
pub mod Round
pub mod Run
pub mod Settled
pub mod Tally
pub mod Within
