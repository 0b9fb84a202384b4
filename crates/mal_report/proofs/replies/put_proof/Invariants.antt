use Rattle.std.proofs.Common.{◌≡◌, ◌++◌, map, take}
use Rattle.spec_text.specs.Lines.{text_of}
use Rattle.spec_report.specs.Replies.{proof_row}
use Rattle.mal_report.proofs.replies.put_proof.Given as goal

abbrev pub invariant-loop-n : goal.invariant-loop-n
invariant-loop-n l = l.out.items ≡ l.fn.out.items ++ text_of (map proof_row (take l.n l.lines.lines))
