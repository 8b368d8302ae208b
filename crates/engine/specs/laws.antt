-- Laws of what specs/ defines, for the crates above and for proofs. Assumes nothing.
pub mod DrainingLaws
pub mod ForwardAlone
pub mod RunCounts
pub mod RunLaws
pub mod RunSound
pub mod StartFacts
pub mod StartLaws
