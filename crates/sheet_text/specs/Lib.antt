pub mod SheetText
pub mod Scanning
