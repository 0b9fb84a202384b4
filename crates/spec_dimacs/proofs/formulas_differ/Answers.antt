use Rattle.spec_dimacs.proofs.Differ.{formulas-differ, other-texts}
use Rattle.spec_dimacs.proofs.formulas_differ.Goals as goal

pub returns : goal.returns
returns c = record { differ = formulas-differ; examples = other-texts }
