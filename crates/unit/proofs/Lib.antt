-- Lemmas about the meaning of a unit, for this crate and the kinds above it.
pub mod Meaning
mod Copies
