-- The definitions that the contracts cite.
pub mod Wanted
pub mod Moved
