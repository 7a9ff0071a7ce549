-- The rules of the monitor, runs of them, and the laws of runs.
pub mod State
pub mod Tables
pub mod Acts
pub mod Records
pub mod Mail
pub mod Clock
pub mod Transfers
pub mod Rules
pub mod Runs
pub mod Trials
pub mod Sound
pub mod Laws
