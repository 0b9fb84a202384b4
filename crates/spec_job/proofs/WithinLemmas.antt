-- The lines of a log are of the variables of the revisions up to the current one, and what is told stays said.
use Rattle.std.proofs.Common.{ℕ, ◌-◌, ◌≤◌, List, ◌++◌, length, take, drop, sym, subst, arith, inl, inr, ◌⊎◌}
use Rattle.std.specs.Prelude.{All}
use Rattle.std.proofs.lemmas.List.Elements.{All-weaker}
use Rattle.mal_base.specs.NumberedClause.{NumberedClause, Line}
use Rattle.mal_revision.specs.Posted.{Posted}
use Rattle.spec_node.specs.State.{Node}
use Rattle.spec_node.specs.Sound.{IsLiteralOf, AreLiteralsOf}
use Rattle.spec_search.specs.Slice.{slice}
use Rattle.spec_search.proofs.LineLemmas.{lines-stay_within}
use Rattle.spec_proof.specs.Among.{Among}
use Rattle.spec_proof.proofs.Among.{among-append, of-all}
use Rattle.spec_job.specs.Models.{variables_of}
use Rattle.spec_job.proofs.LoadedLemmas.{variables-more, HasLoaded}
use Rattle.spec_search.specs.Covering.{IsOfLine}
use Rattle.spec_search.proofs.LinesLemmas.{of-line-later}
use Rattle.spec_job.proofs.TrackedLemmas.{take-split, take-more}
use Rattle.spec_job.proofs.ImportingLemmas.{IsSaid, AreWithin}

-- literals of some variables are of more
wider : (v w : ℕ) (lits : List ℕ) → v ≤ w → AreLiteralsOf v lits → AreLiteralsOf w lits
wider v w lits low h = record { rising = h.rising; within = All-weaker (IsLiteralOf v) (IsLiteralOf w) one lits h.within }
  where
    one : (l : ℕ) → IsLiteralOf v l → IsLiteralOf w l
    one l k = record { low = k.low; high = omega (arith, k.high) }

within-more : (v w : ℕ) (log : List Line) → v ≤ w → AreWithin v log → AreWithin w log
within-more v w log low h line m = wider v w line.lits low (h line m)

variables-later : (k m : ℕ) (revisions : List Posted) → k ≤ m → variables_of (take k revisions) ≤ variables_of (take m revisions)
variables-later k m revisions low = subst (λ (ps : List Posted). variables_of (take k revisions) ≤ variables_of ps) (sym (take-split revisions k m low)) (variables-more (take k revisions) (take (m - k) (drop k revisions)))

pub within-later : (k m : ℕ) (revisions : List Posted) (log : List Line) → k ≤ m → AreWithin (variables_of (take k revisions)) log → AreWithin (variables_of (take m revisions)) log
within-later k m revisions log low h = within-more (variables_of (take k revisions)) (variables_of (take m revisions)) log (variables-later k m revisions low) h

pub within-revised : (k : ℕ) (revisions more : List Posted) (log : List Line) → AreWithin (variables_of (take k revisions)) log → AreWithin (variables_of (take k (revisions ++ more))) log
within-revised k revisions more log h = subst (λ (ps : List Posted). AreWithin (variables_of ps) log) (sym (take-more k revisions more)) (within-more (variables_of (take k revisions)) (variables_of (take k revisions ++ take (k - length revisions) more)) log (variables-more (take k revisions) (take (k - length revisions) more)) h)

-- the lines of a slice of a node that has loaded revisions are of its variables
slice-within : (revisions : List Posted) (n : Node) → HasLoaded revisions n → AreWithin (variables_of revisions) (slice n).lines
slice-within revisions n h line m =
    let all : All (λ l. AreLiteralsOf n.variables l.lits) (slice n).lines = lines-stay_within n h.sound in
    subst (λ (v : ℕ). AreLiteralsOf v line.lits) h.variables (of-all (λ l. AreLiteralsOf n.variables l.lits) (slice n).lines line all m)

-- so a log takes the lines of a slice of a node that has loaded no more than the current revision
pub within-slice : (revisions : List Posted) (log : List Line) (k m : ℕ) (n : Node) → k ≤ m → HasLoaded (take k revisions) n → AreWithin (variables_of (take m revisions)) log → AreWithin (variables_of (take m revisions)) (log ++ (slice n).lines)
within-slice revisions log k m n low loaded h line a = by_side (among-append log (slice n).lines line a)
  where
    by_side : Among line log ⊎ Among line (slice n).lines → AreLiteralsOf (variables_of (take m revisions)) line.lits
    by_side (inl b) = h line b
    by_side (inr b) = within-later k m revisions (slice n).lines low (slice-within (take k revisions) n loaded) line b

-- what is told stays said where lines come after
pub said-later : (log more : List Line) (told : List NumberedClause) → IsSaid log told → IsSaid (log ++ more) told
said-later log more told h = record { lines = All-weaker (IsOfLine log) (IsOfLine (log ++ more)) (of-line-later log more) told h.lines; apart = h.apart }
