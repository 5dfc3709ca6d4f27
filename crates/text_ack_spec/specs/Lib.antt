pub mod AckLine
