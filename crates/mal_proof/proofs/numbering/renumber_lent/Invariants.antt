use Rattle.std.proofs.Common.{◌≡◌, map, take}
use Rattle.spec_proof.specs.Trimmed.{renamed, new_id, ids_of}
use Rattle.mal_proof.proofs.numbering.renumber_lent.Given as goal

abbrev pub invariant-loop-line : goal.invariant-loop-line
invariant-loop-line l = l.out.lines ≡ map (renamed (new_id l.m (ids_of l.lines))) (take l.line-index l.lines)
