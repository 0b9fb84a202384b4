-- What small texts say.
use Rattle.std.specs.Prelude.{◌≡◌, ℕ, List, ◌++◌, codes, Ok, Err}
use Rattle.mal_base.specs.declared.block_fault.BlockFault.TheVariants as block
use Rattle.spec_logic.specs.Refutation.Refusal.{UnknownHint, HintNotUnit, NoContradiction}
use Rattle.mal_base.specs.declared.line_fault.LineFault.TheVariants as line
use Rattle.spec_lrat.specs.Reading as proof
use Rattle.mal_claim.specs.Proofs.Verdict.{Verified, Refused, NoGoal}
use Rattle.mal_claim.specs.Claims.{said}
use Rattle.mal_claim.specs.Claims.Fault.{NoProof, InFormula, InProof}
use Rattle.mal_claim.specs.FaultLines.{fault_line, verdict_line}

-- the clauses 1 2, 1 -2, -1 2 and -1 -2
abbrev pub four : List ℕ
four = codes "p cnf 2 4\n1 2 0\n1 -2 0\n-1 2 0\n-1 -2 0\n"

-- the clause -1 -2
abbrev pub one : List ℕ
one = codes "p cnf 2 1\n-1 -2 0\n"

pub record HasExamples : Type 0 where
  pub verified : said (four ++ codes "proof\n5 1 0 1 2 0\n6 0 5 3 4 0\n") ≡ Ok Verified
  pub not_unit : said (four ++ codes "proof\n5 0 1 0\n") ≡ Ok (Refused 1 (HintNotUnit 1))
  pub unknown_hint : said (four ++ codes "proof\n5 1 0 9 0\n") ≡ Ok (Refused 1 (UnknownHint 9))
  pub no_contradiction : said (four ++ codes "proof\n5 1 0 3 0\n") ≡ Ok (Refused 1 NoContradiction)
  pub first_line_alone : said (four ++ codes "proof\n5 1 0 1 2 0\n") ≡ Ok NoGoal
  pub negative_hint : said (four ++ codes "proof\n5 1 0 -1 0\n") ≡ Err (InProof 1 proof.Fault.NegativeHint)
  pub id_not_rising : said (four ++ codes "proof\n4 1 0 1 2 0\n") ≡ Err (InProof 1 (proof.Fault.IdNotRising 4 4))
  pub missing_zero : said (one ++ codes "proof\n2 1 0 1\n") ≡ Err (InProof 1 proof.Fault.MissingZero)
  pub bad_id : said (one ++ codes "proof\n0 1 0 1 0\n") ≡ Err (InProof 1 proof.Fault.BadNumber)
  pub faults_before_refusals : said (four ++ codes "proof\n5 0 1 0\n\n6 0 1\n") ≡ Err (InProof 3 proof.Fault.MissingZero)
  pub assumed : said (one ++ codes "a 1 2 0\nproof\nl 2 -1 -2 0 1 0\n") ≡ Ok Verified
  pub not_assumed : said (one ++ codes "proof\nl 2 -1 -2 0 1 0\n") ≡ Ok NoGoal
  pub no_proof : said (one ++ codes "a 1 2 0\nl 2 -1 -2 0 1 0\n") ≡ Err NoProof
  pub no_proof_first : said (codes "x\na\n") ≡ Err NoProof
  pub comments_between : said (one ++ codes "a 1 2 0\n\nc proof\n proof \n2 -1 -2 0 1 0") ≡ Ok Verified
  pub proof_and_more : said (one ++ codes "proof x\nproof\n") ≡ Err (InFormula 3 line.BadLine)
  pub two_lines_of_assumptions : said (one ++ codes "a 1 0\na 2 0\nproof\n") ≡ Err (InFormula 4 line.BadLine)
  pub both_signs : said (one ++ codes "a 2 1 -1 0\nproof\n") ≡ Err (InFormula 3 (line.Opposite 1))
  pub above_variables : said (one ++ codes "a 3 0\nproof\n") ≡ Err (InFormula 3 line.Range)
  pub no_formula : said (codes "proof\n") ≡ Err (InFormula 1 (line.Dimacs block.BadHeader))
  pub cut_short : said (codes "p cnf 1 2\n1 0\nproof\n") ≡ Err (InFormula 2 (line.Dimacs (block.ClauseCount 2 1)))
  pub no_proof_told : fault_line NoProof ≡ codes "fault: no proof\n"
  pub no_goal_told : verdict_line NoGoal ≡ codes "fault: proof goal\n"
  pub verified_told : verdict_line Verified ≡ codes "s VERIFIED\n"
