pub mod DecimalLemmas
pub mod HexadecimalLemmas
pub mod Outs
pub mod Pieces
pub mod HeaderLemmas
pub mod StringLemmas
