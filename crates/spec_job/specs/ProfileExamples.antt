-- Worked examples of jobs that differ in the profile of their solvers.
use Rattle.std.specs.Prelude.{◌≡◌, [], ◌∷◌, length, take, codes, Some}
use Rattle.mal_base.specs.declared.profile.Profile.{Profile}
use Rattle.mal_base.specs.declared.profile.Profile.TheVariants.{Plain, Lean}
use Rattle.mal_base.specs.declared.answer.Answer.TheVariants.{Refuted}
use Rattle.mal_base.specs.declared.verdict.Outcome.TheVariants.{Ran}
use Rattle.mal_revision.specs.Posted.{Posted}
use Rattle.spec_node.specs.State.{Node}
use Rattle.spec_job.specs.Journal.{Load, Import, Run, replay}
use Rattle.spec_job.specs.SoloMachine.{Opened, Revised, Closed, Volume, Started, Finished, SoloMachine, solo}
use Rattle.spec_job.specs.KeyedJob.{Key}
use Rattle.spec_job.specs.Replies.{reply}
use Rattle.spec_job.specs.DemandOne.{IsSingle}
use Rattle.spec_search.specs.Examples.{four}
use Rattle.spec_job.specs.Examples.{second_ask, one_of_two, ran_once, line, proof_for}

-- a job of profile 2 whose revision one node ran a slice of
abbrev pub second_once : Posted → SoloMachine
second_once r = solo (Opened (second_ask 1 4) ∷ Revised r ∷ Closed ∷ Volume 1 ∷ Started 0 ∷ Finished 0 Ran ∷ [])

-- the clauses 1 -2, 1 2 3 4 and 2 3 -4
abbrev pub covered : Posted
covered = record { variables = 4; clauses = Some (2 ∷ 5 ∷ []) ∷ Some (2 ∷ 4 ∷ 6 ∷ 8 ∷ []) ∷ Some (4 ∷ 6 ∷ 9 ∷ []) ∷ []; assumptions = [] }

-- the job p of the tenant a
abbrev pub a_p : Key
a_p = record { tenant = codes "a"; job = codes "p" }

-- a node of this profile that has its model, before and after an import of nothing
abbrev pub before_import : Profile → Node
before_import profile = (replay profile 0 (Load one_of_two 1 ∷ Run ∷ [])).node

abbrev pub after_import : Profile → Node
after_import profile = (replay profile 0 (Load one_of_two 1 ∷ Run ∷ Import [] ∷ [])).node

-- both profiles refute the clauses 1 2, 1 -2, -1 2 and -1 -2 by the same lines, and the reply names the second alone;
-- the first clause that is learned is shorter under profile 2, which minimizes; and an import of nothing leaves a node of
-- profile 2 as it is, where it cuts one of profile 1
pub record HasProfiles : Type 0 where
  pub refuted : (second_once four).answers ≡ Refuted 4294967360 ∷ []
  pub same_answers : (second_once four).answers ≡ (ran_once four).answers
  pub same_lines : proof_for (second_once four) 0 4294967360 ≡ proof_for (ran_once four) 0 4294967360
  pub named : reply a_p 1 (second_once four) ≡ Some (codes "r a p 1 2\ns UNSATISFIABLE\nk 0\nl 5 1 0 1 2 0\nl 6 0 5 3 4 0\n")
  pub not_named : reply a_p 1 (ran_once four) ≡ Some (codes "r a p 1\ns UNSATISFIABLE\nk 0\nl 5 1 0 1 2 0\nl 6 0 5 3 4 0\n")
  pub longer : take 1 (ran_once covered).log ≡ line 4294967296 (2 ∷ 4 ∷ 6 ∷ []) (2 ∷ 3 ∷ []) ∷ []
  pub shorter : take 1 (second_once covered).log ≡ line 4294967296 (2 ∷ 6 ∷ []) (1 ∷ 2 ∷ 3 ∷ []) ∷ []
  pub left : after_import Lean ≡ before_import Lean
  pub assigned : length (before_import Plain).trail ≡ 2
  pub cut : length (after_import Plain).trail ≡ 0
  pub single : IsSingle (second_ask 1 4) (Revised four ∷ Closed ∷ Volume 1 ∷ Started 0 ∷ Finished 0 Ran ∷ [])
