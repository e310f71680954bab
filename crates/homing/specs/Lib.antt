pub mod Gather
pub mod Pieces
pub mod Home
pub mod Received
pub mod Taking
pub mod Receiving
