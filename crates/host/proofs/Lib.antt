-- The lemmas that the proofs share.
pub mod Made
pub mod Alike
