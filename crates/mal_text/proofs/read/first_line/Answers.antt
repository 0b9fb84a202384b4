use Rattle.std.proofs.Common.{ℕ, ◌+◌, ◌∷◌, List, take, arith, add-one, ap, ◌∙◌, sym, drop, length, ◌-◌, ◌≡◌, ◌<◌, get_or}
use Rattle.std.proofs.lemmas.List.{take_rest}
use Rattle.spec_text.specs.Inputs.{lines_of}
use Rattle.spec_text.proofs.Read.{first_line_at, only_line}
use Rattle.mal_text.proofs.read.first_line.Goals as goal

cut_at : (text : List ℕ) (i : ℕ) → i < length text → get_or text i 0 ≡ 10 → ((k : ℕ) → k < i → get_or text k 0 ≡ 10 → ⊥) → lines_of text ≡ take i text ∷ lines_of (take (length text - (i + 1)) (drop (i + 1) text))
cut_at text i low e none = first_line_at text i low e none ∙ ap (λ (rest : List ℕ). take i text ∷ lines_of rest) (ap (λ (n : ℕ). drop n text) (sym (add-one i)) ∙ sym (take_rest text (i + 1)))

pub returns-then-byte-eq10-clause-lines : goal.returns-then-byte-eq10-clause-lines
returns-then-byte-eq10-clause-lines c = cut_at c.args.text.now c.loop-index.index (omega arith) c.if-byte-eq10.true c.loop-index.invariant

pub returns-clause-lines : goal.returns-clause-lines
returns-clause-lines c = only_line c.args.text.now (grind arith) (λ k low. c.loop-index.invariant k (omega arith))
