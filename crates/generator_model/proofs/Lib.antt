pub mod BodyLaws
pub mod HeadLaws
