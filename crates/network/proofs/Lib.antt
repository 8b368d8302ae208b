pub mod Gathering
pub mod ListingBack
pub mod RowWords
pub mod Steps
pub mod Tests
