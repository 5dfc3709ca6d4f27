pub mod ContentTextLaws
