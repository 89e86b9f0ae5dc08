pub mod FirstWords
pub mod ForceAtEnd
pub mod OptionOrder
pub mod SameWord
pub mod WordByWord
