use Rattle.std.proofs.Common.{◌≡◌, take}
use Rattle.std.specs.Prelude.{flat_map}
use Rattle.mal_proof.specs.Goals.{up_to}
use Rattle.mal_proof.proofs.log.Log.lend_up_to.Given as goal

abbrev pub invariant-loop-chunk : goal.invariant-loop-chunk
invariant-loop-chunk l = l.lines.items ≡ up_to l.most (flat_map (λ chunk. chunk.lines.lines) (take l.chunk-index l.chunk-items))
