use Rattle.std.proofs.Common.{◌∙◌}
use Rattle.spec_proof.specs.Trimmed.{is_needed, reached_in}
use Rattle.mal_proof.proofs.Trimming.{marks-lines, trimmed-result}
use Rattle.mal_proof.proofs.trim.trimmed.Goals as goal

pub returns : goal.returns
returns c =
    let test = is_needed c.args.goal (reached_in c.args.goal c.args.lines.now) in
    trimmed-result c.marked.result c.args.goal c.args.lines.now c.requires
    (c.marked.ensures (λ l. test l.id) (c.as_slice.ensures.value ∙ marks-lines test c.args.lines.now c.in_ok-marks.marks.items c.in_ok-marks.ensures))
