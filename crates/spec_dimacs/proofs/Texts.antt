-- The bytes of written lines.
use Rattle.std.proofs.Common.{◌≡◌, ℕ, ◌<◌, List, [], ◌∷◌, ◌++◌, length, arith, ◌∙◌, sym, append_assoc}
use Rattle.std.specs.List.{join_with_byte}
use Rattle.spec_text.specs.Lines.{line_of}
use Rattle.spec_dimacs.specs.Written.{closed_words}

-- a line is its first word, a space and the line of the others
pub before_line : (word : List ℕ) (words : List (List ℕ)) → 0 < length words → line_of (word ∷ words) ≡ (word ++ 32 ∷ []) ++ line_of words
before_line word [] some = absurd (omega arith)
before_line word (next ∷ words) some = append_assoc word (32 ∷ join_with_byte 32 (next ∷ words)) (10 ∷ []) ∙ sym (append_assoc word (32 ∷ []) (line_of (next ∷ words)))

-- a closed list of literals has a word
pub closed_some : (lits : List ℕ) → 0 < length (closed_words lits)
closed_some [] = omega arith
closed_some (l ∷ ls) = omega arith
