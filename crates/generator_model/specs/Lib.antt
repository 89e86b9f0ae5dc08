pub mod Drawing
pub mod Generating
pub mod Laws
pub mod NumberSequence
pub mod Opening
