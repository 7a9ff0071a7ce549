-- What the lines of a report are.
pub mod Lines
