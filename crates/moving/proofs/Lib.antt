-- The lemma that a text's line takes.
pub mod Lines
