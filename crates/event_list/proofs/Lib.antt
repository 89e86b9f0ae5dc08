pub mod Appended
pub mod Noted
pub mod Printed
pub mod Pushed
