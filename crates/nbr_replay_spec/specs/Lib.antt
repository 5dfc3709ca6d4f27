pub mod Log
pub mod Visit
pub mod Replay
pub mod Tally
