-- The definitions that the contracts cite.
pub mod View
pub mod Number
pub mod Even
pub mod Four
