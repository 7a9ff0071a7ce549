-- The definitions that the contracts cite.
pub mod Waits
pub mod Due
pub mod View
