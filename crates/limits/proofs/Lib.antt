pub mod SheetSizeLaws
