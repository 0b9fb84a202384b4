use Rattle.std.specs.Prelude.{◌≡◌, ℕ, true, false, List, [], ◌∷◌, Some, None}
use Rattle.mal_base.specs.Asks.{Terms, Weighed}
use Rattle.mal_base.specs.NumberedClause.{NumberedClause, Line}
use Rattle.mal_base.specs.declared.answer.Answer.TheVariants.{Satisfied, Refuted, Spent, OutOfStarts}
use Rattle.mal_base.specs.declared.profile.Profile.TheVariants.{Plain, Lean}
use Rattle.mal_base.specs.declared.verdict.Outcome.TheVariants.{Ran, Starved, Lost}
use Rattle.mal_revision.specs.Posted.{Posted}
use Rattle.spec_node.specs.State.{fresh}
use Rattle.spec_search.specs.Examples as searched
use Rattle.spec_search.specs.Examples.{at_odds, four}
use Rattle.spec_job.specs.Journal.{Load, Import, Run, replay}
use Rattle.spec_job.specs.SoloMachine.{Own, Opened, Revised, Reasked, Closed, Volume, Started, Finished, Exchanged, SoloMachine, unopened, solo, startable, start_entries, is_exchange_due, place_at, conclude}
use Rattle.spec_job.specs.Proofs.{failed, proof_lines}
use Rattle.spec_job.specs.Runnable.{IsRunnable}
use Rattle.spec_job.specs.Counts.{IsOpenedOnce}
use Rattle.spec_job.specs.DemandOne.{is_single, IsSingle}

-- an ask of this demand with these slices, for solvers of profile 1
abbrev pub ask : ℕ → ℕ → Terms
ask demand slices = record { priority = 1; demand = demand; slices = slices; profile = Plain }

-- the same for solvers of profile 2
abbrev pub second_ask : ℕ → ℕ → Terms
second_ask demand slices = record { priority = 1; demand = demand; slices = slices; profile = Lean }

-- this priority and this demand in place of those of an ask
abbrev pub weight : ℕ → ℕ → Weighed
weight priority demand = record { priority = priority; demand = demand }

-- the revision of the examples of a slice of which one of two variables has to be true
abbrev pub one_of_two : Posted
one_of_two = searched.one_of_two

-- two variables, one of which has to be false, where both are assumed true
abbrev pub both_assumed : Posted
both_assumed = record { variables = 2; clauses = Some (3 ∷ 5 ∷ []) ∷ []; assumptions = 2 ∷ 4 ∷ [] }

-- three variables, the last of which has to be true
abbrev pub third_true : Posted
third_true = record { variables = 3; clauses = Some (6 ∷ []) ∷ []; assumptions = [] }

-- a job with a revision and one volume
abbrev pub ready : Posted → ℕ → List Own
ready r slices = Opened (ask 1 slices) ∷ Revised r ∷ Closed ∷ Volume 1 ∷ []

-- a job whose revision one node ran a slice of
abbrev pub ran_once : Posted → SoloMachine
ran_once r = solo (Opened (ask 1 4) ∷ Revised r ∷ Closed ∷ Volume 1 ∷ Started 0 ∷ Finished 0 Ran ∷ [])

-- a job whose first revision one node ran a slice of, and then another one was posted
abbrev pub ran_before : Posted → Posted → SoloMachine
ran_before r later = solo (Opened (ask 1 4) ∷ Revised r ∷ Volume 1 ∷ Started 0 ∷ Finished 0 Ran ∷ Revised later ∷ [])

-- a job with two places, whose first node is out
abbrev pub started_first : SoloMachine
started_first = solo (Opened (ask 2 4) ∷ Revised one_of_two ∷ Volume 2 ∷ Started 0 ∷ [])

-- the same job, whose ask then changes
abbrev pub reasked_out : SoloMachine
reasked_out = solo (Opened (ask 2 4) ∷ Revised one_of_two ∷ Volume 2 ∷ Started 0 ∷ Reasked (weight 5 1) ∷ [])

-- a job with a budget of two slices, of which so many are spent
abbrev pub with_spent : ℕ → SoloMachine
with_spent n = record unopened { ask = ask 1 2; revisions = one_of_two ∷ []; spent = n }

abbrev pub line : ℕ → List ℕ → List ℕ → Line
line id lits hints = record { id = id; lits = lits; hints = hints }

-- the lines of a job's proof for a revision and a goal
abbrev pub proof_for : SoloMachine → ℕ → ℕ → List Line
proof_for s r goal = proof_lines s.revisions s.log r goal

-- worked examples of a job's machine: answers, models of as many values as there are variables by then, budgets,
-- starved and lost starts, late finishes
pub record HasExamples : Type 0 where
  pub answered : (solo (Opened (ask 1 4) ∷ Revised one_of_two ∷ Closed ∷ Volume 1 ∷ Started 0 ∷ Finished 0 Ran ∷ [])).answers ≡ Satisfied (false ∷ true ∷ []) ∷ []
  pub whole : (solo (Opened (ask 1 4) ∷ Revised one_of_two ∷ Volume 1 ∷ Started 0 ∷ Finished 0 Ran ∷ Revised third_true ∷ Revised one_of_two ∷ Started 0 ∷ Finished 0 Ran ∷ Started 0 ∷ Finished 0 Ran ∷ [])).answers ≡ Satisfied (false ∷ true ∷ []) ∷ Satisfied (false ∷ true ∷ true ∷ []) ∷ Satisfied (false ∷ true ∷ true ∷ []) ∷ []
  pub second_node : (solo (Opened (ask 2 4) ∷ Revised one_of_two ∷ Closed ∷ Volume 2 ∷ Started 0 ∷ Started 1 ∷ Finished 1 Ran ∷ Finished 0 Ran ∷ [])).answers ≡ Satisfied (true ∷ true ∷ []) ∷ []
  pub budget_spent : (conclude None (fresh 0) (with_spent 1)).answers ≡ Spent 2 ∷ []
  pub budget_left : (conclude None (fresh 0) (with_spent 0)).answers ≡ []
  pub budget_counts : (conclude None (fresh 0) (with_spent 0)).spent ≡ 1
  pub starved_thrice : (solo (Opened (ask 1 4) ∷ Revised one_of_two ∷ Volume 1 ∷ Started 0 ∷ Finished 0 Starved ∷ Started 0 ∷ Finished 0 Starved ∷ Started 0 ∷ Finished 0 Starved ∷ [])).answers ≡ OutOfStarts ∷ []
  pub lost_counts_nothing : (solo (Opened (ask 1 1) ∷ Revised one_of_two ∷ Volume 1 ∷ Started 0 ∷ Finished 0 Lost ∷ Started 0 ∷ Finished 0 Ran ∷ [])).answers ≡ Satisfied (false ∷ true ∷ []) ∷ []
  pub journal : (place_at (solo (Opened (ask 1 4) ∷ Revised one_of_two ∷ Volume 1 ∷ Started 0 ∷ Finished 0 Ran ∷ Revised at_odds ∷ Started 0 ∷ Finished 0 Ran ∷ [])) 0).entries ≡ Load one_of_two 1 ∷ Run ∷ Load at_odds 2 ∷ Run ∷ []
  pub may_start : startable (solo (ready one_of_two 1)) 0 ≡ true
  pub not_above_volume : startable (solo (ready one_of_two 1)) 1 ≡ false
  pub not_while_out : startable (solo (Opened (ask 1 4) ∷ Revised one_of_two ∷ Volume 1 ∷ Started 0 ∷ [])) 0 ≡ false
  pub not_past_budget : startable (solo (Opened (ask 2 1) ∷ Revised one_of_two ∷ Volume 2 ∷ Started 0 ∷ [])) 1 ≡ false
  pub not_when_answered : startable (solo (Opened (ask 1 4) ∷ Revised one_of_two ∷ Volume 1 ∷ Started 0 ∷ Finished 0 Ran ∷ [])) 0 ≡ false

-- worked examples of refutations: a job that its first slice refutes, with its log and its proof; a proof of two lines;
-- a revision that is posted after an empty clause; and assumptions that fail
pub record HasRefutations : Type 0 where
  pub refuted_at_once : (ran_once at_odds).answers ≡ Refuted 4294967296 ∷ []
  pub one_line : (ran_once at_odds).log ≡ line 4294967296 [] (1 ∷ 2 ∷ []) ∷ []
  pub numbered : proof_for (ran_once at_odds) 0 4294967296 ≡ line 3 [] (1 ∷ 2 ∷ []) ∷ []
  pub none_failed : failed 4294967296 (ran_once at_odds).log ≡ []
  pub two_lines : proof_for (ran_once four) 0 4294967360 ≡ line 5 (2 ∷ []) (1 ∷ 2 ∷ []) ∷ line 6 [] (5 ∷ 3 ∷ 4 ∷ []) ∷ []
  pub answered_at_once : (ran_before at_odds one_of_two).answers ≡ Refuted 4294967296 ∷ Refuted 4294967296 ∷ []
  pub after_both : proof_for (ran_before at_odds one_of_two) 1 4294967296 ≡ line 4 [] (1 ∷ 2 ∷ []) ∷ []
  pub both_refuted : (ran_once both_assumed).answers ≡ Refuted 4294967296 ∷ []
  pub both_failed : failed 4294967296 (ran_once both_assumed).log ≡ 2 ∷ 4 ∷ []
  pub core : proof_for (ran_once both_assumed) 0 4294967296 ≡ line 2 (3 ∷ 5 ∷ []) (1 ∷ []) ∷ []
  pub not_settled : (ran_before both_assumed one_of_two).answers ≡ Refuted 4294967296 ∷ []

abbrev pub numbered_clause : ℕ → List ℕ → NumberedClause
numbered_clause id lits = record { id = id; lits = lits }

-- a job with a volume of two, of which the first node has derived a clause, and then another revision was posted
abbrev pub derived_before : Posted → List Own → SoloMachine
derived_before later own = solo (Opened (ask 2 4) ∷ Revised both_assumed ∷ Volume 2 ∷ Started 0 ∷ Finished 0 Ran ∷ Revised later ∷ own)

-- the same job after an exchange
abbrev pub exchanged_once : SoloMachine
exchanged_once = derived_before one_of_two (Exchanged ∷ [])

-- worked examples of exchanges: what is broadcast, which marks move, what is broadcast once alone, what the next starts
-- import, and the clauses of a node that has imported
pub record HasExchanges : Type 0 where
  pub not_due : is_exchange_due (derived_before one_of_two []) ≡ false
  pub ran : (derived_before one_of_two []).ran ≡ 1
  pub broadcast : exchanged_once.broadcasts ≡ (numbered_clause 4294967296 (3 ∷ 5 ∷ []) ∷ []) ∷ []
  pub ran_after : exchanged_once.ran ≡ 0
  pub moved : (place_at exchanged_once 0).mark ≡ 1
  pub moved_too : (place_at exchanged_once 1).mark ≡ 1
  pub above_volume : (place_at exchanged_once 2).mark ≡ 0
  pub while_out : (place_at (derived_before one_of_two (Started 0 ∷ Exchanged ∷ [])) 0).mark ≡ 0
  pub not_while_out : (derived_before one_of_two (Started 0 ∷ Exchanged ∷ [])).broadcasts ≡ [] ∷ []
  pub once : (derived_before one_of_two (Exchanged ∷ Exchanged ∷ [])).broadcasts ≡ (numbered_clause 4294967296 (3 ∷ 5 ∷ []) ∷ []) ∷ [] ∷ []
  pub own : start_entries exchanged_once (place_at exchanged_once 0) ≡ Load one_of_two 2 ∷ Import (numbered_clause 4294967296 (3 ∷ 5 ∷ []) ∷ []) ∷ Run ∷ []
  pub other : start_entries exchanged_once (place_at exchanged_once 1) ≡ Load both_assumed 1 ∷ Load one_of_two 2 ∷ Import (numbered_clause 4294967296 (3 ∷ 5 ∷ []) ∷ []) ∷ Run ∷ []
  pub imported : (replay Plain 1 (Load four 1 ∷ Import (numbered_clause 4294967296 (3 ∷ []) ∷ []) ∷ [])).node.clauses ≡ numbered_clause 1 (2 ∷ 4 ∷ []) ∷ numbered_clause 2 (2 ∷ 5 ∷ []) ∷ numbered_clause 3 (3 ∷ 4 ∷ []) ∷ numbered_clause 4 (3 ∷ 5 ∷ []) ∷ numbered_clause 4294967296 (3 ∷ []) ∷ []
  pub serial : (replay Plain 1 (Load four 1 ∷ Import (numbered_clause 4294967296 (3 ∷ []) ∷ []) ∷ [])).node.serial ≡ 1
  pub line_after : (replay Plain 1 (Load four 1 ∷ Import (numbered_clause 4294967296 (3 ∷ []) ∷ []) ∷ Run ∷ [])).lines ≡ line 4294967361 [] (4294967296 ∷ 1 ∷ 2 ∷ []) ∷ []

-- worked examples of an ask that changes: the priority and the demand are the new ones, all else is as before, also what
-- is out, and the answer is the same
pub record HasReasked : Type 0 where
  pub changed : reasked_out.ask ≡ record { priority = 5; demand = 1; slices = 4; profile = Plain }
  pub rest : record reasked_out { ask = started_first.ask } ≡ started_first
  pub twice : (solo (Opened (ask 2 4) ∷ Reasked (weight 5 1) ∷ Reasked (weight 3 64) ∷ [])).ask ≡ record { priority = 3; demand = 64; slices = 4; profile = Plain }
  pub before : (solo (Opened (ask 2 4) ∷ Reasked (weight 5 1) ∷ Revised one_of_two ∷ Volume 1 ∷ Started 0 ∷ Finished 0 Ran ∷ [])).answers ≡ Satisfied (false ∷ true ∷ []) ∷ []
  pub while_out : (solo (Opened (ask 2 4) ∷ Revised one_of_two ∷ Volume 2 ∷ Started 0 ∷ Reasked (weight 5 1) ∷ Finished 0 Ran ∷ [])).answers ≡ Satisfied (false ∷ true ∷ []) ∷ []

-- worked examples of own events that may happen: two nodes with an exchange between their starts, and one node alone,
-- also where its priority changes
pub record HasRunnable : Type 0 where
  pub two : IsRunnable [] (Opened (ask 2 4) ∷ Revised both_assumed ∷ Volume 2 ∷ Started 0 ∷ Finished 0 Ran ∷ Revised one_of_two ∷ Exchanged ∷ Started 1 ∷ Started 0 ∷ Finished 1 Ran ∷ Finished 0 Lost ∷ [])
  pub one : IsSingle (ask 1 4) (Revised one_of_two ∷ Closed ∷ Volume 1 ∷ Started 0 ∷ Finished 0 Ran ∷ [])
  pub reasked : IsSingle (ask 1 4) (Revised one_of_two ∷ Reasked (weight 7 1) ∷ Volume 1 ∷ Started 0 ∷ Reasked (weight 2 1) ∷ Finished 0 Ran ∷ [])
  pub not_single : is_single (Reasked (weight 1 2)) ≡ false
  pub once : IsOpenedOnce (ask 1 4) (Revised one_of_two ∷ Volume 1 ∷ Started 0 ∷ Finished 0 Starved ∷ [])
