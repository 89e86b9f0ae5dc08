pub mod History
pub mod Lacking
pub mod Log
pub mod Pieces
pub mod Sealed
pub mod Serials
