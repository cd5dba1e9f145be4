pub mod ByteBits
pub mod CellPlaces
pub mod CellWrites
pub mod RoomSums
pub mod GridWrites
