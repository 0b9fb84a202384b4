use Rattle.std.proofs.Common.{◌∙◌, List, ℕ, [], ◌∷◌, codes, ap}
use Rattle.std.proofs.lemmas.Result.{IfOk-weaker}
use Rattle.spec_text.specs.Lines.{line_of}
use Rattle.spec_text.specs.Numbers.{decimal_word}
use Rattle.mal_script.proofs.telling.limit_line.Goals as goal

pub returns : goal.returns
returns c =
    IfOk-weaker c.told.result _ _ (λ text h. h ∙ ap (λ (a : List ℕ). line_of (codes "fault:" ∷ c.args.at.part.now ∷ codes "line" ∷ decimal_word c.args.at.line ∷ codes "Limit" ∷ a ∷ [])) c.which_word.ensures) c.told.ensures
