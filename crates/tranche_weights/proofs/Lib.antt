pub mod WrittenLength
pub mod BlockReplyLaw
pub mod OpenedReplyLaw
