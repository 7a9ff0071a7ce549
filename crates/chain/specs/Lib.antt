-- The definitions that the contracts cite.
pub mod Lists
pub mod Chains
pub mod Laws
pub mod Walks
