-- Worked examples of feeds.
use Rattle.std.specs.Prelude.{◌≡◌, [], ◌∷◌, ◌++◌, codes, Some, Ok, Err}
use Rattle.mal_base.specs.Asks.{Terms}
use Rattle.mal_base.specs.Limits.{limits}
use Rattle.mal_base.specs.declared.key.Key.{Key}
use Rattle.mal_base.specs.declared.profile.Profile.TheVariants.{Plain}
use Rattle.mal_base.specs.declared.limit_kind.LimitKind.TheVariants.{Tenants, Jobs, Revisions}
use Rattle.mal_base.specs.declared.block_fault.BlockFault.TheVariants.{BadNumber, ClauseCount}
use Rattle.mal_base.specs.declared.line_fault.LineFault.TheVariants.{BadLine, Dimacs, Duplicate, Limit, Range}
use Rattle.spec_script.specs.Examples.{few}
use Rattle.spec_script.specs.declared.step.Step.TheVariants.{Revise, Reask}
use Rattle.spec_feed.specs.declared.post.FeedPost.{FeedPost}
use Rattle.spec_feed.specs.declared.post.FeedPost.TheVariants.{Opens, Takes, Closes}
use Rattle.spec_feed.specs.declared.fault.FeedFault.TheVariants as feed
use Rattle.spec_feed.specs.FaultLines.{fault_line}
use Rattle.spec_feed.specs.Reading.{read_feed}

-- the job p of tenant a, the job q of this tenant, and the job p of tenant b
abbrev pub first_job : Key
first_job = record { tenant = codes "a"; job = codes "p" }

abbrev pub second_job : Key
second_job = record { tenant = codes "a"; job = codes "q" }

abbrev pub other_job : Key
other_job = record { tenant = codes "b"; job = codes "p" }

-- what each of them asks for
abbrev pub small : Terms
small = record { priority = 1; demand = 1; slices = 4; profile = Plain }

-- a job's opening, its change of what it asks for, and its revision of one clause
abbrev pub opening : Key → FeedPost
opening key = Opens key small

abbrev pub asking : Key → FeedPost
asking key = Takes key (Reask (record { priority = 5; demand = 2 }))

abbrev pub revising : Key → FeedPost
revising key = Takes key (Revise (record { variables = 2; clauses = Some (2 ∷ 4 ∷ []) ∷ []; assumptions = [] }))

-- small texts that are feeds, and what they post; a literal is given by its code: 2 and 4 are 1 and 2
pub record ReadingExamples : Type 0 where
  pub empty : read_feed limits [] ≡ Ok []
  pub one_job : read_feed limits (codes "t a\nj p 1 1 4\np cnf 2 1\n1 2 0\na 0\nq 5 2\ne\n") ≡ Ok (opening first_job ∷ revising first_job ∷ asking first_job ∷ Closes first_job ∷ [])
  pub side_by_side : read_feed limits (codes "t a\nj p 1 1 4\nt b\nj p 1 1 4\np cnf 2 1\n1 2 0\na 0\nt a\nj p\nq 5 2\nt b\nj p\nq 5 2\ne\nt a\nj p\np cnf 2 1\n1 2 0\na 0\ne\n")
      ≡ Ok (opening first_job ∷ opening other_job ∷ revising other_job ∷ asking first_job ∷ asking other_job ∷ Closes other_job ∷ revising first_job ∷ Closes first_job ∷ [])
  pub of_one_tenant : read_feed limits (codes "t a\nj p 1 1 4\nj q 1 1 4\nq 5 2\nj p\nq 5 2\ne\n") ≡ Ok (opening first_job ∷ opening second_job ∷ asking second_job ∷ asking first_job ∷ Closes first_job ∷ Closes second_job ∷ [])
  pub goes_on_with_itself : read_feed limits (codes "t a\nj p 1 1 4\nj p\nq 5 2\ne\n") ≡ Ok (opening first_job ∷ asking first_job ∷ Closes first_job ∷ [])
  pub tenant_in_a_job : read_feed limits (codes "t a\nj p 1 1 4\nt b\n") ≡ Ok (opening first_job ∷ Closes first_job ∷ [])
  pub end_in_two_jobs : read_feed limits (codes "t a\nj p 1 1 4\nt b\nj p 1 1 4") ≡ Ok (opening first_job ∷ opening other_job ∷ Closes first_job ∷ Closes other_job ∷ [])
  pub closed_as_opened : read_feed limits (codes "t a\nj p 1 1 4\nj q 1 1 4\nj p\n") ≡ Ok (opening first_job ∷ opening second_job ∷ Closes first_job ∷ Closes second_job ∷ [])

-- small texts with their first fault
pub record FaultExamples : Type 0 where
  pub no_tenant : read_feed limits (codes "j p\n") ≡ Err (1, feed.Line BadLine)
  pub never_began : read_feed limits (codes "t a\nj p\n") ≡ Err (2, feed.Line BadLine)
  pub has_ended : read_feed limits (codes "t a\nj p 1 1 4\ne\nj p\n") ≡ Err (4, feed.Line BadLine)
  pub of_another_tenant : read_feed limits (codes "t a\nj p 1 1 4\nt b\nj p\n") ≡ Err (4, feed.Line BadLine)
  pub step_of_no_job : read_feed limits (codes "t a\nj p 1 1 4\nt a\nq 5 2\n") ≡ Err (4, feed.Line BadLine)
  pub end_of_no_job : read_feed limits (codes "t a\nj p 1 1 4\nt a\ne\n") ≡ Err (4, feed.Line BadLine)
  pub end_in_a_block : read_feed limits (codes "t a\nj p 1 1 4\np cnf 1 1\n1 0\n") ≡ Err (4, feed.Line BadLine)
  pub block_cut_short : read_feed limits (codes "t a\nj p 1 1 4\np cnf 2 2\n1 2 0\n-1") ≡ Err (5, feed.Line (Dimacs (ClauseCount 2 1)))
  pub tenant_in_a_block : read_feed limits (codes "t a\nj p 1 1 4\np cnf 0 0\nt b\na 0\n") ≡ Err (4, feed.Line (Dimacs BadNumber))
  pub job_in_a_block : read_feed limits (codes "t a\nj p 1 1 4\nj q 1 1 4\np cnf 0 0\nj p\na 0\n") ≡ Err (5, feed.Line (Dimacs BadNumber))
  pub duplicate_open : read_feed limits (codes "t a\nj p 1 1 4\nt a\nj p 1 1 4\n") ≡ Err (4, feed.Line (Duplicate (codes "a") (codes "p")))
  pub duplicate_ended : read_feed limits (codes "t a\nj p 1 1 4\ne\nj p 1 1 4\n") ≡ Err (4, feed.Line (Duplicate (codes "a") (codes "p")))
  pub priority_zero : read_feed limits (codes "t a\nj p 1 1 4\nj q 0 1 4\n") ≡ Err (3, feed.Line Range)
  pub third_tenant : read_feed few (codes "t a\nj p 1 1 4\nt b\nt c\n") ≡ Err (4, feed.Line (Limit Tenants))
  pub second_job_of_tenant : read_feed few (codes "t a\nj p 1 1 4\nj q 1 1 4\n") ≡ Err (3, feed.Line (Limit Jobs))
  pub second_revision : read_feed few (codes "t a\nj p 1 1 4\np cnf 0 0\na 0\nj p\np cnf 0 0\n") ≡ Err (6, feed.Line (Limit Revisions))

-- the lines that tell faults
pub record FaultLineExamples : Type 0 where
  pub of_a_line : fault_line 4 (feed.Line (Duplicate (codes "a") (codes "p"))) ≡ codes "fault: feed line 4 Duplicate a p" ++ 10 ∷ []
  pub too_long : fault_line 12 feed.TooLong ≡ codes "fault: feed line 12 TooLong" ++ 10 ∷ []
