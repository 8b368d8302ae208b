pub mod CodeArrays
pub mod CodeForward
pub mod CodeLinks
pub mod CodeRefusals
pub mod CodeRows
pub mod CodeTurns
pub mod CodeVisit
pub mod CodeWalks
