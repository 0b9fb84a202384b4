use Rattle.std.proofs.Common.{refl}
use Rattle.spec_lrat.specs.Examples.{HasLines, HasFaults}

pub lines : HasLines
lines = record { unit = refl; behind_l = refl; empty = refl; repeats = refl; tautology = refl; delete = refl; l_delete = refl }

pub faults : HasFaults
faults = record { zero_id = refl; no_number = refl; literal_too_large = refl; hint_may_be_larger = refl; negative_deleted = refl; two_lists_deleted = refl; l_alone = refl; open_hints = refl; three_lists = refl; not_rising = refl; negative_hint = refl }
