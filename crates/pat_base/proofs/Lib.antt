pub mod Digits
pub mod Hosts
pub mod Lists
pub mod MemberBits
pub mod Members
pub mod Names
pub mod Positions
pub mod Texts
