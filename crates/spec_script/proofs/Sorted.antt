-- Literals in order, each once: one list for each set of literals.
use Rattle.std.proofs.Common.{◌≡◌, ℕ, true, List}
use Rattle.mal_base.specs.Clauses.{climbs, HaveSame}
use Rattle.mal_base.proofs.Tautologies.{climbing-unique}
use Rattle.spec_dimacs.specs.Merged.{sorted}
use Rattle.spec_dimacs.proofs.Merging.{sorted_climbs, sorted_same}

-- the sorted literals are the one list that climbs and has the same members
pub sorted-unique : (lits ordered : List ℕ) → climbs ordered ≡ true → HaveSame lits ordered → ordered ≡ sorted lits
sorted-unique lits ordered up same =
    let to : HaveSame lits (sorted lits) = sorted_same lits in
    climbing-unique ordered (sorted lits) up (sorted_climbs lits) (record { there = λ x h. to.there x (same.back x h); back = λ x h. same.there x (to.back x h) })
