pub mod Answering
pub mod ServerCommanding
