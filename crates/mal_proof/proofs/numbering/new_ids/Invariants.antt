use Rattle.std.proofs.Common.{◌≡◌, map, take}
use Rattle.spec_proof.specs.Trimmed.{new_id}
use Rattle.mal_proof.proofs.numbering.new_ids.Given as goal

abbrev pub invariant-loop-hint : goal.invariant-loop-hint
invariant-loop-hint l = l.out.items ≡ map (new_id l.m l.ids) (take l.hint-index l.hints)
