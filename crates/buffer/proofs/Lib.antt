-- The lemma that a new buffer takes.
pub mod Texts
