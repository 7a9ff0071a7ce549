-- The definitions that the contracts cite.
pub mod Parts
pub mod View
pub mod Caller
pub mod Places
pub mod Spread
pub mod Promises
