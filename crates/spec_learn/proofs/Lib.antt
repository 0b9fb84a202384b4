-- what crates above cite
pub mod InsertionLemmas
pub mod BehindLemmas
pub mod ApartLemmas
pub mod SoundParts
pub mod KeepLemmas
pub mod RefuteLemmas
pub mod CoreLemmas
pub mod CoreClauseLemmas
pub mod CoreSoundLemmas
pub mod ProfileLemmas
pub mod GoalLemmas
-- what this crate alone cites
mod LogicLemmas
mod HeartLemmas
mod UipLemmas
mod PointLemmas
mod SettleLemmas
mod LawLemmas
mod FirstPointLemmas
mod CaseLemmas
mod TurnLemmas
mod LevelLemmas
mod StayLemmas
mod WithinLemmas
mod HintLemmas
mod LessonLemmas
mod WalkLemmas
mod ShorterLemmas
