-- What the word format means.
pub mod Format
pub mod Kinds
pub mod Heads
pub mod Text
pub mod Reading
pub mod Writing
pub mod Answers
