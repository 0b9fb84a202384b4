-- What small answers are written as.
use Rattle.std.specs.Prelude.{◌≡◌, ℕ, false, true, List, [], ◌∷◌, codes}
use Rattle.mal_base.specs.NumberedClause.{Line}
use Rattle.mal_base.specs.declared.profile.Profile.TheVariants.{Plain, Lean}
use Rattle.spec_report.specs.Replies.{ReplyBody, Model, Proof, AllSpent, AllStarved, reply_text}

-- the text of a reply to a revision of the job p of the tenant a, whose solvers have the first profile
abbrev pub reply_to : ℕ → ReplyBody → List ℕ
reply_to r told = reply_text (codes "a") (codes "p") r Plain told

-- the same where they have the second
abbrev pub second_to : ℕ → ReplyBody → List ℕ
second_to r told = reply_text (codes "a") (codes "p") r Lean told

-- a proof of two lines
abbrev pub two_lines : List Line
two_lines = record { id = 5; lits = 2 ∷ []; hints = 1 ∷ 2 ∷ [] } ∷ record { id = 6; lits = []; hints = 5 ∷ 3 ∷ 4 ∷ [] } ∷ []

-- small replies
pub record ReplyExamples : Type 0 where
  pub no_variables : reply_to 1 (Model []) ≡ codes "r a p 1\ns SATISFIABLE\nv 0\n"
  pub two_variables : reply_to 1 (Model (false ∷ true ∷ [])) ≡ codes "r a p 1\ns SATISFIABLE\nv -1 2 0\n"
  pub refuted : reply_to 1 (Proof [] two_lines) ≡ codes "r a p 1\ns UNSATISFIABLE\nk 0\nl 5 1 0 1 2 0\nl 6 0 5 3 4 0\n"
  pub refuted_in_second : second_to 1 (Proof [] two_lines) ≡ codes "r a p 1 2\ns UNSATISFIABLE\nk 0\nl 5 1 0 1 2 0\nl 6 0 5 3 4 0\n"
  pub refuted_under : reply_to 2 (Proof (2 ∷ 4 ∷ []) (record { id = 2; lits = 3 ∷ 5 ∷ []; hints = 1 ∷ [] } ∷ [])) ≡ codes "r a p 2\ns UNSATISFIABLE\nk 1 2 0\nl 2 -1 -2 0 1 0\n"
  pub spent : reply_to 1 (AllSpent 4) ≡ codes "r a p 1\ns UNKNOWN\nu spent 4\n"
  pub starved : reply_to 1 AllStarved ≡ codes "r a p 1\ns UNKNOWN\nu starved 3\n"
  pub spent_in_second : second_to 2 (AllSpent 4) ≡ codes "r a p 2 2\ns UNKNOWN\nu spent 4\n"
  pub satisfied_in_second : second_to 1 (Model (false ∷ true ∷ [])) ≡ codes "r a p 1 2\ns SATISFIABLE\nv -1 2 0\n"
