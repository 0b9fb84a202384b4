use Rattle.std.specs.Prelude.{ℕ, ◌+◌, Bool, List, [], ◌∷◌, ◌++◌, map, codes}
use Rattle.mal_base.specs.NumberedClause.{Line}
use Rattle.mal_base.specs.Literals.{literal}
use Rattle.mal_base.specs.declared.profile.Profile.{Profile}
use Rattle.spec_text.specs.Asks.{profile_words}
use Rattle.spec_text.specs.Lines.{text_of}
use Rattle.spec_text.specs.Numbers.{decimal_word, literal_word}
use Rattle.spec_lrat.specs.Written.{row_of}
use Rattle.spec_proof.specs.Log.{added}

-- what a reply tells: a model; the failed assumptions and the lines of a proof; that so many slices are spent; or that
-- three starts reported out of memory
pub data ReplyBody : Type 0 where
  Model : List Bool → ReplyBody
  Proof : List ℕ → List Line → ReplyBody
  AllSpent : ℕ → ReplyBody
  AllStarved : ReplyBody

-- the words of a model's literals, of the variables from this one on
abbrev pub model_words : ℕ → List Bool → List (List ℕ)
model_words var [] = []
model_words var (b ∷ bs) = literal_word (literal var b) ∷ model_words (var + 1) bs

-- the words of a line of a proof
abbrev pub proof_row : Line → List (List ℕ)
proof_row line = codes "l" ∷ row_of (added line)

-- the words of the lines of what is told
abbrev pub told_rows : ReplyBody → List (List (List ℕ))
told_rows (Model model) = (codes "s" ∷ codes "SATISFIABLE" ∷ []) ∷ (codes "v" ∷ (model_words 1 model ++ codes "0" ∷ [])) ∷ []
told_rows (Proof failed lines) = (codes "s" ∷ codes "UNSATISFIABLE" ∷ []) ∷ (codes "k" ∷ (map literal_word failed ++ codes "0" ∷ [])) ∷ map proof_row lines
told_rows (AllSpent n) = (codes "s" ∷ codes "UNKNOWN" ∷ []) ∷ (codes "u" ∷ codes "spent" ∷ decimal_word n ∷ []) ∷ []
told_rows AllStarved = (codes "s" ∷ codes "UNKNOWN" ∷ []) ∷ (codes "u" ∷ codes "starved" ∷ codes "3" ∷ []) ∷ []

-- the words after the first of the first line of a reply, of which the last names the profile of the job's solvers
unfoldable pub head_words : List ℕ → List ℕ → ℕ → Profile → List (List ℕ)
head_words tenant job r profile = tenant ∷ job ∷ decimal_word r ∷ profile_words profile

-- the text of the reply to a revision, which is numbered from 1, of a tenant's job, whose solvers have this profile
unfoldable pub reply_text : List ℕ → List ℕ → ℕ → Profile → ReplyBody → List ℕ
reply_text tenant job r profile told = text_of ((codes "r" ∷ head_words tenant job r profile) ∷ told_rows told)
