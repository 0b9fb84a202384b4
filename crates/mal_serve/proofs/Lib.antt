pub mod Answering
pub mod Ending
pub mod HallCrossings
pub mod PassLemmas
pub mod SaidLemmas
pub mod SeatLemmas
pub mod ServeLemmas
