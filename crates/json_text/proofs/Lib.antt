mod Escapes
mod Words
mod Lexemes
mod Sound
mod Strings
mod Values
mod Numbers
mod Kept
pub mod Outlines
pub mod Texts
