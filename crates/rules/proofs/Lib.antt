-- The proofs of the laws. Shapes takes the rules apart once, for all laws; Sounds proves what holds of every state and of the
-- ready chain, Messages the cells, Owed and Bytes the units, Refused the refusals, Samples the trial runs; Together joins them.
pub mod Shapes
pub mod Refused
pub mod Counts
pub mod Places
pub mod Tidy
pub mod Waits
pub mod Kept
pub mod Fields
pub mod Moves
pub mod Requests
pub mod Sounds
pub mod Due
pub mod Messages
pub mod Owed
pub mod Bytes
pub mod Samples
pub mod Together
