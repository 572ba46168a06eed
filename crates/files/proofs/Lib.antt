pub mod FileLaws
pub mod Pieces
pub mod FileSteps
pub mod DecimalLaws
