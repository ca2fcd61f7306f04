-- The modules of `specs/`.
pub mod Reply
pub mod ReplyLaws
