-- The lemmas that the proofs share, and those for callers.
pub mod Requests
pub mod Everywhere
