pub mod AckLineLaws
