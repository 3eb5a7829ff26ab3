pub mod Judged
pub mod Judgements
pub mod Known
pub mod Values
