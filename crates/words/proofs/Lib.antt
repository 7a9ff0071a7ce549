-- Lemmas that several proofs share.
pub mod FirstWords
pub mod Texts
pub mod CallWords
pub mod Laid
pub mod AnswerWords
