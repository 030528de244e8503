pub mod SlopesFit
