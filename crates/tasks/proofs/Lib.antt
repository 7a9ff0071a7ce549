-- The lemmas that the proofs share. Callers use Places and Placing.
pub mod Cases
pub mod Places
pub mod Placing
pub mod Tables
