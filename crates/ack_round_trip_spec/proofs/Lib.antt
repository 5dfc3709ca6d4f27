pub mod OfTheGrammar
pub mod Fits
pub mod ReadsBack
pub mod RoundTripLaws
