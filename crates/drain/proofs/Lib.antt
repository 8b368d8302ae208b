pub mod AtOnce
pub mod AtOnceForwards
pub mod Filing
pub mod Within
