pub mod FourNumbers
pub mod BlockReply
pub mod ConversionReply
pub mod OpenedReply
