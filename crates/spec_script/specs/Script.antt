use Rattle.std.specs.Prelude.{ℕ, List, [], ◌∷◌, ◌++◌, length, map, flat_map, codes}
use Rattle.mal_base.specs.Asks.{Terms, Weighed}
use Rattle.mal_revision.specs.Posted.{Posted}
use Rattle.spec_text.specs.Asks.{ask_words}
use Rattle.spec_text.specs.Lines.{text_of}
use Rattle.spec_text.specs.Numbers.{decimal_word}
use Rattle.spec_dimacs.specs.Written.{closed_words, clause_words, header_words}
use Rattle.spec_script.specs.declared.step.Step.{Step}
use Rattle.spec_script.specs.declared.step.Step.TheVariants.{Revise, Reask}

-- a job of a script: its tenant, its name, its ask and its steps
pub record ScriptedJob : Type 0 where
  pub tenant : List ℕ
  pub name : List ℕ
  pub ask : Terms
  pub steps : List Step

-- the revisions that a step posts
abbrev pub revisions_at : Step → List Posted
revisions_at (Revise r) = r ∷ []
revisions_at (Reask w) = []

-- the revisions among steps
abbrev pub revisions_in : List Step → List Posted
revisions_in steps = flat_map revisions_at steps

-- the revisions of a job
abbrev pub revisions : ScriptedJob → List Posted
revisions j = revisions_in j.steps

-- a script: its jobs, in the order of the text
pub record Scripted : Type 0 where
  pub jobs : List ScriptedJob

-- the words of the lines of a revision: the header, a line a clause, and the assumptions
abbrev pub revision_rows : Posted → List (List (List ℕ))
revision_rows r = header_words r.variables (length r.clauses) ∷ (map clause_words r.clauses ++ (codes "a" ∷ closed_words r.assumptions) ∷ [])

-- the words of the line that changes what a job asks for
abbrev pub weight_words : Weighed → List (List ℕ)
weight_words w = codes "q" ∷ decimal_word w.priority ∷ decimal_word w.demand ∷ []

-- the words of the lines of a step
abbrev pub step_rows : Step → List (List (List ℕ))
step_rows (Revise r) = revision_rows r
step_rows (Reask w) = weight_words w ∷ []

-- the words of a tenant's line
abbrev pub tenant_words : List ℕ → List (List ℕ)
tenant_words tenant = codes "t" ∷ tenant ∷ []

-- the words of the line that begins a job
abbrev pub job_words : List ℕ → Terms → List (List ℕ)
job_words name ask = codes "j" ∷ name ∷ ask_words ask

-- the words of the lines of a job
abbrev pub job_rows : ScriptedJob → List (List (List ℕ))
job_rows j = tenant_words j.tenant ∷ job_words j.name j.ask ∷ (flat_map step_rows j.steps ++ (codes "e" ∷ []) ∷ [])

-- the words of the lines of a script
abbrev pub rows_of : Scripted → List (List (List ℕ))
rows_of s = flat_map job_rows s.jobs

-- the one text that a script is written as
unfoldable pub spelling : Scripted → List ℕ
spelling s = text_of (rows_of s)
