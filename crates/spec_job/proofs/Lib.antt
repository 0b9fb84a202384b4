-- what crates above cite
pub mod StepLemmas
pub mod FinishLemmas
pub mod LoadedLemmas
pub mod PlacesLemmas
pub mod SolvingLemmas
pub mod StayLemmas
pub mod SlicesLemmas
pub mod CountLemmas
pub mod LawfulLemmas
pub mod PushLemmas
pub mod DerivingLemmas
pub mod KeptLemmas
pub mod RefutingLemmas
pub mod CountingLemmas
pub mod SumLemmas
pub mod RunsLemmas
pub mod OwnLemmas
pub mod AgreeLemmas
pub mod SingleLemmas
pub mod FollowLemmas
pub mod LeftLemmas
pub mod UnknownLemmas
pub mod UpToLemmas
pub mod ReplyLemmas
pub mod OnePassLemmas
pub mod LastingLemmas
-- what this crate alone cites
mod ExampleLemmas
mod ProfileExampleLemmas
mod ElementLemmas
mod PostingLemmas
mod SolvedLemmas
mod ReachedLemmas
mod TrackedLemmas
mod ImportingLemmas
mod ExportLemmas
mod WithinLemmas
mod RunningLemmas
mod FinishingLemmas
mod CalmLemmas
mod LowLemmas
mod FewLemmas
mod BudgetLemmas
mod TurnLemmas
mod CourseLemmas
mod AlongLemmas
mod SliceLemmas
mod FollowingLemmas
mod TallyLemmas
mod UnknownExampleLemmas
mod ExportedLemmas
mod ExportedExampleLemmas
mod UpToExampleLemmas
mod LastingExampleLemmas
