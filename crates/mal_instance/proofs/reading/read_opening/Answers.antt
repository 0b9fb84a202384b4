use Rattle.std.proofs.Common.{[], ◌∷◌, map, sym, ap, ◌∙◌}
use Rattle.spec_text.specs.Inputs.{words_of}
use Rattle.spec_dimacs.specs.Rows.{rows_of}
use Rattle.mal_instance.proofs.FormulaLemmas.{after-begins}
use Rattle.mal_instance.proofs.reading.read_opening.Goals as goal

pub returns-in-Some-clause-begins : goal.returns-in-Some-clause-begins
returns-in-Some-clause-begins c =
    after-begins (c.args.word.now ∷ []) (rows_of c.args.text.now) (rows_of c.in-Some.rest.now) (words_of c.in-Some.row.now) (sym c.in_ok-formula.ensures.after ∙ ap (map words_of) c.in-Some.ensures.lines)
