use Rattle.std.proofs.Common.{◌≡◌, Bool, map, take}
use Rattle.std.specs.Prelude.{filter}
use Rattle.mal_base.specs.NumberedClause.{Line}
use Rattle.mal_proof.proofs.trim.marked.Given as goal

abbrev pub invariant-loop-place : goal.invariant-loop-place
invariant-loop-place l = (test : Line → Bool) → l.marks ≡ map test l.lines → l.out.lines ≡ filter test (take l.place l.lines)
