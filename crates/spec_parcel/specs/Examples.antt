-- Worked examples of the bytes of a parcel.
use Rattle.std.specs.Prelude.{◌≡◌, ℕ, true, false, List, [], ◌∷◌, ◌++◌, codes, replicate, Some}
use Rattle.mal_base.specs.NumberedClause.{Line}
use Rattle.mal_base.specs.declared.answer.Answer.TheVariants.{Satisfied, Refuted, Spent, OutOfStarts}
use Rattle.mal_base.specs.declared.verdict.Outcome.TheVariants.{Ran, Lost}
use Rattle.mal_revision.specs.Posted.{Posted}
use Rattle.spec_job.specs.KeyedJob.{Key}
use Rattle.spec_job.specs.Examples.{ask, weight}
use Rattle.spec_job.specs.SoloMachine.{Own, Opened, Revised, Reasked, Closed, Volume, Started, Finished, Exchanged, Slice, solo}
use Rattle.spec_script.specs.Script.{spelling}
use Rattle.spec_parcel.specs.Packed.{answer_bytes, listed, own_text, parcel_bytes, ran_indices, script_of, sized, slice_bytes}

-- the job p of tenant a
abbrev pub key : Key
key = record { tenant = codes "a"; job = codes "p" }

-- one variable, which has to be true
abbrev pub first_true : Posted
first_true = record { variables = 1; clauses = Some (2 ∷ []) ∷ []; assumptions = [] }

-- a number below 256 in 8 bytes
abbrev pub small : ℕ → List ℕ
small n = replicate 7 0 ++ n ∷ []

-- a job that was opened, revised once and closed, of which no slice was run
abbrev pub not_run : List Own
not_run = Opened (ask 1 4) ∷ Revised first_true ∷ Closed ∷ []

-- own events of each kind
abbrev pub of_each : List Own
of_each = Opened (ask 1 4) ∷ Revised first_true ∷ Reasked (weight 2 3) ∷ Volume 1 ∷ Started 0 ∷ Finished 0 Lost ∷ Revised first_true ∷ Exchanged ∷ Closed ∷ Volume 0 ∷ []

-- the line 8 of the literals 1 and -2, derived along clauses 3 and 4
abbrev pub line : Line
line = record { id = 8; lits = 2 ∷ 5 ∷ []; hints = 3 ∷ 4 ∷ [] }

-- a slice that logged no line and ends its revision
abbrev pub ending : Slice
ending = record { lines = []; ends = true }

-- a slice that logged a line and ends nothing
abbrev pub going_on : Slice
going_on = record { lines = line ∷ []; ends = false }

-- a job of two places, both of which ran a slice: the second was late
abbrev pub ran_late : List Own
ran_late = Opened (ask 2 4) ∷ Revised first_true ∷ Volume 2 ∷ Started 0 ∷ Started 1 ∷ Finished 1 Ran ∷ Finished 0 Ran ∷ []

-- the bytes of a job of which no slice was run, and texts of its sections
pub record HasTexts : Type 0 where
  pub script : spelling (script_of key not_run) ≡ codes "t a\nj p 1 1 4\np cnf 1 1\n1 0\na 0\ne\n"
  pub events : own_text key not_run ≡ codes "o a p 1 1 4\nr a p 1\nc a p\n"
  pub parcel : parcel_bytes key not_run ≡ codes "MALPACK1" ++ (small 34 ++ (codes "t a\nj p 1 1 4\np cnf 1 1\n1 0\na 0\ne\n" ++ (small 26 ++ (codes "o a p 1 1 4\nr a p 1\nc a p\n" ++ replicate 24 0))))
  pub asked_anew : spelling (script_of key of_each) ≡ codes "t a\nj p 1 1 4\np cnf 1 1\n1 0\na 0\nq 2 3\np cnf 1 1\n1 0\na 0\ne\n"
  pub each : own_text key of_each ≡ codes "o a p 1 1 4\nr a p 1\nq a p 2 3\nb a p 1\ns a p 0 1\nf a p 0 1 lost\nr a p 2\nx a p\nc a p\nb a p 0\n"

-- the bytes of answers, of slices, of lists, and the places that have run
pub record HasPieces : Type 0 where
  pub satisfied : answer_bytes (Satisfied (false ∷ true ∷ [])) ≡ 1 ∷ 0 ∷ 1 ∷ []
  pub refuted : answer_bytes (Refuted 4294967297) ≡ 2 ∷ 0 ∷ 0 ∷ 0 ∷ 1 ∷ 0 ∷ 0 ∷ 0 ∷ 1 ∷ []
  pub spent : answer_bytes (Spent 4) ≡ 3 ∷ []
  pub out_of_starts : answer_bytes OutOfStarts ≡ 4 ∷ []
  pub ending : slice_bytes ending ≡ 1 ∷ replicate 16 0
  pub going_on : slice_bytes going_on ≡ 0 ∷ (small 1 ++ (small 15 ++ codes "8 1 -2 0 3 4 0\n"))
  pub sized : sized (codes "ab") ≡ small 2 ++ codes "ab"
  pub listed : listed answer_bytes (Spent 4 ∷ OutOfStarts ∷ []) ≡ small 2 ++ 3 ∷ 4 ∷ []

-- the places that have run, and of their slices which ended a revision
pub record HasRuns : Type 0 where
  pub none_ran : ran_indices (solo of_each) ≡ []
  pub both_ran : ran_indices (solo ran_late) ≡ 0 ∷ 1 ∷ []
  pub one_ends : (solo ran_late).slices ≡ ending ∷ record { lines = []; ends = false } ∷ []
  pub slices : listed slice_bytes (solo ran_late).slices ≡ small 2 ++ (1 ∷ replicate 16 0 ++ 0 ∷ replicate 16 0)
  pub answers : listed answer_bytes (solo ran_late).answers ≡ small 1 ++ 1 ∷ 1 ∷ []
