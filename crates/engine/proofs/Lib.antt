pub mod AloneLaws
pub mod ImagingLaws
pub mod Lent
pub mod RunEnds
pub mod RunLoop
pub mod RunTurns
pub mod TurnLaws
