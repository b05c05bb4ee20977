-- Compact text read line by line.
pub mod BorrowedLines
