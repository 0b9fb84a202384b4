-- What is told with its evidence, where all clauses come with the first question and later ones only assume.
use Rattle.std.specs.Prelude.{◌≡◌, ℕ, true, Bool, List, length, Option, All, Contains}
use Rattle.mal_base.specs.Clauses.{rises}
use Rattle.mal_base.specs.NumberedClause.{Line}
use Rattle.spec_logic.specs.Logic.{satisfies_with}
use Rattle.spec_logic.specs.Refutation.{IsRefutation}
use Rattle.spec_proof.specs.Log.{proof_of}
use Rattle.spec_report.specs.Replies.{ReplyBody, Model, Proof, AllSpent, AllStarved}
use Rattle.spec_course.specs.Course.{Asked}

-- a model has a value for each variable and satisfies clauses and assumptions
pub record IsModel (variables : ℕ) (clauses : List (Option (List ℕ))) (assumptions : List ℕ) (model : List Bool) : Type 0 where
  pub whole : length model ≡ variables
  pub satisfied : satisfies_with model clauses assumptions ≡ true

-- lines refute the clauses under failed assumptions, which are among the assumptions and rise by variable
pub record IsProof (clauses : List (Option (List ℕ))) (assumptions failed : List ℕ) (lines : List Line) : Type 0 where
  pub refuted : IsRefutation clauses failed (proof_of lines)
  pub assumed : All (Contains assumptions) failed
  pub rising : rises failed ≡ true

-- what is told of clauses under assumptions has its evidence; an unknown answer needs none
abbrev pub IsSupported : ℕ → List (Option (List ℕ)) → List ℕ → ReplyBody → Type 0
IsSupported variables clauses assumptions (Model model) = IsModel variables clauses assumptions model
IsSupported variables clauses assumptions (Proof failed lines) = IsProof clauses assumptions failed lines
IsSupported variables clauses assumptions (AllSpent n) = Unit {0}
IsSupported variables clauses assumptions AllStarved = Unit {0}

-- so is all that was told
abbrev pub AreSupported : ℕ → List (Option (List ℕ)) → List Asked → Type 0
AreSupported variables clauses asked = All (λ x. IsSupported variables clauses x.revision.assumptions x.told) asked
