-- What the public contracts say rests on this.
pub mod Names
-- For what a value stands; public contracts name this, and don't rest on how it is said.
pub mod Standing
