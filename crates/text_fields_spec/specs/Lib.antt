pub mod ContentText
