-- The modules of `specs/`.
pub mod Replay
pub mod Calls
pub mod CallsLaws
pub mod ReplayLaws
