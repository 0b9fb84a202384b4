use Rattle.std.specs.Prelude.{◌≡◌, ℕ, false, List, [], ◌∷◌, ◌++◌, length}
use Rattle.mal_base.specs.declared.answer.Answer.TheVariants.{OutOfStarts}
use Rattle.mal_base.specs.declared.verdict.Outcome.TheVariants.{Ran, Starved, Lost}
use Rattle.spec_node.specs.State.{fresh}
use Rattle.spec_job.specs.SoloMachine.{Own, Opened, Revised, Volume, Started, Finished, solo}
use Rattle.spec_job.specs.Unknown.{Ending, endings, slices_of, starved_of, HasSpent}
use Rattle.spec_job.specs.Examples.{ask, one_of_two, ready}

-- a job of four nodes that are all out for its first revision
abbrev pub four_out : List Own
four_out = Opened (ask 4 8) ∷ Revised one_of_two ∷ Volume 4 ∷ Started 0 ∷ Started 1 ∷ Started 2 ∷ Started 3 ∷ []

-- the same where the starts of the first nodes ran out of memory
abbrev pub three_starved : List Own
three_starved = four_out ++ (Finished 0 Starved ∷ Finished 1 Starved ∷ Finished 2 Starved ∷ [])

-- how many slices a revision had, and how many starved starts
abbrev pub slice_count : ℕ → List Own → ℕ
slice_count r events = length (slices_of r (endings events))

abbrev pub starved_count : ℕ → List Own → ℕ
starved_count r events = length (starved_of r (endings events))

-- a slice of a revision that gave no verdict
abbrev pub blank : ℕ → Ending
blank r = record { revision = r; late = false; outcome = Ran; node = fresh 0 }

-- worked examples of starts that have ended: three that ran out of memory answer, and the fourth is late; a slice that
-- ran late, one that was lost, and one of a later revision; and what spends a budget of two slices
pub record HasEndings : Type 0 where
  pub third_answers : (solo three_starved).answers ≡ OutOfStarts ∷ []
  pub three : starved_count 0 three_starved ≡ 3
  pub late_starved : starved_count 0 (three_starved ++ Finished 3 Starved ∷ []) ≡ 3
  pub late_slice : slice_count 0 (three_starved ++ Finished 3 Ran ∷ []) ≡ 1
  pub late_answers : (solo (three_starved ++ Finished 3 Ran ∷ [])).answers ≡ OutOfStarts ∷ []
  pub lost : slice_count 0 (four_out ++ Finished 0 Lost ∷ []) ≡ 0
  pub no_start : slice_count 0 (four_out ++ Finished 4 Ran ∷ []) ≡ 0
  pub first : slice_count 0 (ready one_of_two 4 ++ (Started 0 ∷ Finished 0 Ran ∷ Revised one_of_two ∷ Started 0 ∷ Finished 0 Ran ∷ [])) ≡ 1
  pub second : slice_count 1 (ready one_of_two 4 ++ (Started 0 ∷ Finished 0 Ran ∷ Revised one_of_two ∷ Started 0 ∷ Finished 0 Ran ∷ [])) ≡ 1
  pub spent : HasSpent 2 (blank 0 ∷ blank 1 ∷ blank 0 ∷ []) 0 2
  pub not_less : HasSpent 2 (blank 0 ∷ blank 1 ∷ []) 0 2 → ⊥
