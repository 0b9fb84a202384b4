use Rattle.std.proofs.Common.{◌∙◌, List, ℕ, [], ◌∷◌, codes, ap₂}
use Rattle.std.proofs.lemmas.Result.{IfOk-weaker}
use Rattle.spec_text.specs.Lines.{line_of}
use Rattle.spec_text.specs.Numbers.{decimal_word}
use Rattle.mal_script.proofs.telling.opposite_line.Goals as goal

pub returns : goal.returns
returns c =
    IfOk-weaker c.told.result _ _ (λ text h. h ∙ ap₂ (λ (a b : List ℕ). line_of (codes "fault:" ∷ c.args.at.part.now ∷ codes "line" ∷ decimal_word c.args.at.line ∷ a ∷ b ∷ [])) c.as_slice.ensures (c.as_bytes.ensures.value ∙ c.format.ensures.text)) c.told.ensures
