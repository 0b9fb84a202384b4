use Rattle.std.proofs.Common.{subst, List, ℕ}
use Rattle.spec_text.specs.Inputs.{words_of}
use Rattle.spec_lrat.specs.Reading.{reading_of}
use Rattle.mal_lrat.specs.LineView.{seen}
use Rattle.mal_lrat.specs.Answers.{Gives}
use Rattle.mal_lrat.proofs.Fronts.{read-spelled}
use Rattle.mal_lrat.proofs.reading.read_line.Goals as goal

pub returns-clause-spelled : goal.returns-clause-spelled
returns-clause-spelled c = read-spelled c.args.last (words_of c.args.line.now) c.line_of.result (subst (λ (row : List (List ℕ)). Gives seen c.line_of.result (reading_of c.args.last row)) c.behind_l.ensures c.line_of.ensures)
