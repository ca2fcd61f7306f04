-- The modules of `specs/`.
pub mod Pieces
pub mod PiecesLaws
