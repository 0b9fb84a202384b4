use Rattle.std.proofs.Common.{refl}
use Rattle.spec_max.specs.Examples.{HasCounters, HasCosts, HasRefutation}
use Rattle.spec_max.specs.SearchExamples.{HasSearches}

pub counters : HasCounters
counters = record { none = refl; one = refl; two = refl; twice = refl; opposite = refl }

pub costs : HasCosts
costs = record { none = refl; one = refl; twice = refl; opposite = refl; past_end = refl; below_one = refl; below_two = refl }

pub refutation : HasRefutation
refutation = record { cheaper = record { proof = (refl, (refl, tt)); goal = refl } }

pub searches : HasSearches
searches = record { opens = refl; cheapens = refl; best = (refl, (refl, refl)); falls = (refl, (refl, refl)); free = (refl, refl); spent = (refl, (refl, refl)); refuted = (refl, refl) }
