-- the working state, what a sound one is, and its bytes
pub mod Refusal
pub mod Network
pub mod Sound
pub mod Rules
pub mod Refused
pub mod State
pub mod Rows
-- what follows for every sound network, every state and every table
pub mod Listing
-- what the code does in place of a definition, and that it comes to the same
pub mod RowWords
pub mod Tests
pub mod Layout
pub mod Storing
pub mod laws
