pub mod SheetSize
