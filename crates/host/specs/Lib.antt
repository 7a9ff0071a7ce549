-- What a run over call words promises.
pub mod Answered
pub mod Run
