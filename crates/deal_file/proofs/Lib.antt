pub mod FileAnswerLaws
pub mod SheetFileLaw
