pub mod CanonLaws
pub mod FirstWords
pub mod SaidConfigs
pub mod SpelledLines
pub mod SpelledHeads
pub mod SpellLaws
