pub mod NumeralLaws
pub mod TokenLaws
pub mod ScanLaws
pub mod ReadText
pub mod SheetTextLaws
