use Rattle.std.proofs.Common.{◌≡◌, take}
use Rattle.std.specs.List.{flat_map}
use Rattle.spec_text.specs.Lines.{line_of}
use Rattle.spec_proof.specs.Log.{added}
use Rattle.spec_lrat.specs.Written.{row_of}
use Rattle.mal_parcel.proofs.slices.text_of.Given as goal

abbrev pub invariant-loop-n : goal.invariant-loop-n
invariant-loop-n l = l.out.items ≡ flat_map (λ line. line_of (row_of (added line))) (take l.n l.lines.lines)
