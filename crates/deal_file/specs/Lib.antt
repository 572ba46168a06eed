pub mod FileAnswer
