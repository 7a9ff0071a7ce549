-- The lemmas that the proofs share.
pub mod Requested
pub mod Served
