-- The modules of `proofs/`.
pub mod Walk
pub mod Contracts
pub mod Whole
pub mod WholeTwo
pub mod WholeAlone
pub mod WholeFilling
pub mod Looked
pub mod LookedBeside
