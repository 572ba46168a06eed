pub mod CountWithin
