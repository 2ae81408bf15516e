-- What the public contracts say rests on these, in reading order.
pub mod Records
pub mod Sections
pub mod Calls
pub mod FindCalls
pub mod UnitCalls
pub mod AllCalls
pub mod AroundCalls
pub mod CopyCalls
pub mod PathCalls
pub mod PathsCalls
pub mod FaultCalls
pub mod AroundCallLaws
-- Of contracts inside the crate, and of proofs; no public contract reaches these.
pub mod UnitReading
pub mod Stops
pub mod Unkept
pub mod Seekers
pub mod Gatherers
pub mod RowRooms
