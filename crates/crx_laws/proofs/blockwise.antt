-- Blocks of compact text, expanded after other lines than their own.
pub mod LinesAfterText
pub mod PieceBack
