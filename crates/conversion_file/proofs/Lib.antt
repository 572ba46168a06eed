pub mod FileConversionLaws
