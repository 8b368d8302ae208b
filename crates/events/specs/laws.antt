-- Laws of what specs/ defines, for the crates above and for proofs. Assumes nothing.
pub mod Bytes
pub mod Decoded
pub mod Examples
pub mod Fits
pub mod ReadingLaws
pub mod RoundTrip
pub mod Settled
