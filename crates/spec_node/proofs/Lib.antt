-- what crates above cite
pub mod TrailLemmas
pub mod BatchLemmas
pub mod CutLemmas
pub mod FindLemmas
pub mod SettledLemmas
pub mod LoadLemmas
pub mod LevelLemmas
pub mod ReasonLemmas
pub mod SoundLemmas
pub mod ChainLemmas
pub mod PostedLemmas
pub mod ImportLemmas
