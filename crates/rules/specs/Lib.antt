pub mod Rules
pub mod Refusals
pub mod Search
pub mod Streak
pub mod Trials
pub mod Rows
