pub mod MemberLaws
pub mod RangeLaws
