-- The lemmas that the proofs share.
pub mod Members
pub mod Orders
pub mod Leads
pub mod Writes
pub mod Tables
pub mod Walks
