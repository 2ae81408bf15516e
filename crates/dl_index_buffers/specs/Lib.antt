-- What the public contracts say rests on these, in reading order.
pub mod IndexRecords
pub mod OpenCalls
pub mod IndexFindCalls
pub mod StretchCalls
pub mod IndexPathCalls
pub mod IndexFaultCalls
