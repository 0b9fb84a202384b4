mod Walking
mod LooseParts
mod HandleParts
mod LaidLemmas
mod Promised
