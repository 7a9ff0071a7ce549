-- The lemmas that the proofs share.
pub mod Handed
pub mod Due
