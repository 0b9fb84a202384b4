use Rattle.spec_search.proofs.DropLemmas.{drops-hold, drops-when_due}
use Rattle.spec_search.proofs.FewerLemmas.{dropped-sound}
use Rattle.spec_search.proofs.drops_keep_sound.Goals as goal

pub returns : goal.returns
returns c = record { sound = dropped-sound; hold = drops-hold; due = drops-when_due }
