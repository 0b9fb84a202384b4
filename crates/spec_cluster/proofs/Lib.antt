pub mod VisitLemmas
pub mod StayLemmas
pub mod NameLemmas
pub mod HallLemmas
pub mod GrowthLemmas
pub mod MoveLemmas
pub mod CallKeepLemmas
pub mod StayedLemmas
pub mod AmongLemmas
pub mod TakenLemmas
pub mod GoesLemmas
pub mod TurnLemmas
pub mod RoundLemmas
pub mod DealtLemmas
pub mod ScriptLemmas
pub mod PostedLemmas
pub mod ThereLemmas
pub mod MeasureLemmas
pub mod SaidLemmas
mod SingleMoveLemmas
pub mod AlikeLemmas
mod ExampleLemmas
