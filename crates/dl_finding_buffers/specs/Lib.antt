-- What the public contracts say rests on these, in reading order.
pub mod FindingCalls
-- Of contracts inside the crate, and of proofs; no public contract reaches these.
pub mod FindingsHeld
