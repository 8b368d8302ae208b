-- Laws of what specs/ defines, for the crates above and for proofs. Assumes nothing.
pub mod AccidentLaws
pub mod DeliveryLaws
pub mod ForwardLaws
pub mod Keeping
pub mod LeaveJoin
pub mod LinksLaws
pub mod Places
pub mod ProduceLaws
pub mod ReceiverLaws
pub mod RecordLaws
pub mod Settled
pub mod StepLaws
pub mod TopicsLaws
pub mod View
pub mod ViewCounts
pub mod ViewLaws
