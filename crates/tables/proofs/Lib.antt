-- The lemmas for the calls.
pub mod Stands
