-- Definitions for steps inside the code. No clause of a public call cites them.
pub mod TakeLine
pub mod Judge
pub mod Advance
pub mod Drain
pub mod Piece
pub mod Accept
pub mod ChunkReaderView
pub mod Keeping
pub mod LineFault
