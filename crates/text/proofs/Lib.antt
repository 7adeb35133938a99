mod Steps
pub mod Each
pub mod NamesDecided
pub mod NumbersDecided
pub mod Utf8Decided
pub mod Utf8Encoded
