-- The lemmas that the proofs share.
pub mod Served
pub mod Played
