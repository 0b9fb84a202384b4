-- Nothing after a faulty line of a formula counts.
use Rattle.std.proofs.Common.{◌≡◌, ◌⊎◌, ℕ, suc, ◌≤◌, max, List, Option, None, Result, Ok, Err, refl, ap, inl, inr, arith}
use Rattle.mal_base.specs.Formulas.{Formulated}
use Rattle.mal_base.specs.declared.block_fault.BlockFault.{BlockFault}
use Rattle.spec_dimacs.specs.Reading.{Block, ◌>>=◌, after_line, at_end, on_line, read_rows}
use Rattle.spec_dimacs.specs.Laws.{FaultIsFirst}
use Rattle.spec_dimacs.proofs.FirstLine.{GoesByLines, Leads, Stops, same-line, first-fault}

end : (k : ℕ) (r : Result Formulated BlockFault) (line : ℕ) (fault : BlockFault) → on_line (max 1 k) r ≡ Err (line, fault) → k ≤ line
end k (Ok f) line fault e = absurd (cc)
end k (Err x) line fault e = let same : max 1 k ≡ line = same-line {T = Formulated} (max 1 k) line x fault e in omega arith

step : (row : List (List ℕ)) (s : Option Block) → Leads read_rows row s ⊎ Stops read_rows row s
step row s = by_answer (after_line row s) refl
  where
    by_answer : (r : Result (Option Block) BlockFault) → after_line row s ≡ r → Leads read_rows row s ⊎ Stops read_rows row s
    by_answer (Ok t) q = inl (t, λ rows k. ap (λ (r : Result (Option Block) BlockFault). on_line (suc k) r >>= read_rows rows (suc k)) q)
    by_answer (Err x) q = inr (x, λ rows k. ap (λ (r : Result (Option Block) BlockFault). on_line (suc k) r >>= read_rows rows (suc k)) q)

by_lines : GoesByLines read_rows
by_lines = record {
  end = λ k s line fault e. end k (at_end s) line fault e;
  step = step;
}

pub fault_is_first : FaultIsFirst
fault_is_first text other line fault e low same = first-fault read_rows by_lines None text other line fault e low same
