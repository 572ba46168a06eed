pub mod FileConversion
