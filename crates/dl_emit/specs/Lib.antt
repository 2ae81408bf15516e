-- What the public contracts say rests on these, in reading order.
pub mod OperationBytes
pub mod Program
pub mod WrittenUnit
pub mod Laws
pub mod Writing
pub mod Grown
pub mod Conversion
pub mod ConversionLaws
-- Of contracts inside the crate, and of proofs; no public contract reaches these.
pub mod Parts
pub mod Gathered
pub mod HeadFault
pub mod Room
pub mod Texts
