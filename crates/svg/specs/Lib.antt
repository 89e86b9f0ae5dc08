pub mod Escaping
pub mod Forests
pub mod Markup
pub mod Shapes
