-- The modules of `specs/`.
pub mod Answers
pub mod AnswersLaws
