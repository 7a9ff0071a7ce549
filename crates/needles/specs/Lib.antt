-- The rows of the needle bank, and what the bank means.
pub mod Rows
pub mod Bank
