-- Lemmas about the rows of the needle bank.
mod Bytes
mod Filled
