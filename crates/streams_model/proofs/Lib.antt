pub mod Pieces
pub mod EcbLaw
pub mod CbcLaw
pub mod CbcBackLaw
pub mod CbcPadLaw
pub mod CtrLaw
