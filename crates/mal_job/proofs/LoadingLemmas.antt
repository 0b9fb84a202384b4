-- What a start loads.
use Rattle.std.proofs.Common.{◌≡◌, ℕ, ◌+◌, ◌≤◌, List, [], ◌∷◌, ◌++◌, length, take, drop, refl, ap, arith, take-add}
use Rattle.std.proofs.lemmas.List.Sums.{sum_by-take-le}
use Rattle.spec_job.specs.SoloMachine.{clauses_in}
use Rattle.spec_job.proofs.LoadedLemmas.{clauses_in-append}
use Rattle.mal_revision.specs.Posted.{Posted}
use Rattle.spec_job.specs.Journal.{JournalEntry, Load, loads_of}
use Rattle.mal_suspend.specs.Starting.{load_entries}
use Rattle.mal_job.specs.Loads.{paired}

-- revisions with the numbers of their first clauses are loaded in order
pub paired-entries : (rs : List Posted) (first : ℕ) → load_entries (paired first rs) ≡ loads_of first rs
paired-entries [] first = refl
paired-entries (r ∷ rs) first = ap (λ (es : List JournalEntry). Load r first ∷ es) (paired-entries rs (first + length r.clauses))

-- loads have no more clauses than all revisions
pub few-loads : (n m : ℕ) (rs : List Posted) → clauses_in (take n rs) + clauses_in (take m (drop n rs)) ≤ clauses_in rs
few-loads n m rs =
    let sum : clauses_in (take n rs ++ take m (drop n rs)) ≡ clauses_in (take n rs) + clauses_in (take m (drop n rs)) = clauses_in-append (take n rs) (take m (drop n rs)) in
    let joined : clauses_in (take (n + m) rs) ≡ clauses_in (take n rs ++ take m (drop n rs)) = ap clauses_in (take-add n m rs) in
    let all : clauses_in (take (n + m) rs) ≤ clauses_in rs = sum_by-take-le (λ (r : Posted). length r.clauses) rs (n + m) in
    omega (arith, sum, joined, all)

pub few-front : (n : ℕ) (rs : List Posted) → clauses_in (take n rs) ≤ clauses_in rs
few-front n rs = sum_by-take-le (λ (r : Posted). length r.clauses) rs n
