-- What answers do to a generation.
pub mod Answers
