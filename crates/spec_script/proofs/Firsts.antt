-- Nothing after a faulty line of a script counts.
use Rattle.std.proofs.Common.{◌≡◌, ◌⊎◌, ℕ, suc, ◌≤◌, max, List, Result, Ok, Err, refl, ap, inl, inr, arith}
use Rattle.mal_base.specs.declared.line_fault.LineFault.{LineFault}
use Rattle.spec_dimacs.specs.Reading.{◌>>=◌}
use Rattle.spec_dimacs.proofs.FirstLine.{GoesByLines, Leads, Stops, same-line, first-fault}
use Rattle.mal_base.specs.declared.limits.Limits.{Limits}
use Rattle.spec_script.specs.Script.{Scripted}
use Rattle.spec_script.specs.Reading.{Reading, unread, after_row, at_end, on_line, read_rows}
use Rattle.spec_script.specs.Laws.{FaultIsFirst}

end : (k : ℕ) (r : Result Scripted LineFault) (line : ℕ) (fault : LineFault) → on_line (max 1 k) r ≡ Err (line, fault) → k ≤ line
end k (Ok f) line fault e = absurd (cc)
end k (Err x) line fault e = let same : max 1 k ≡ line = same-line {T = Scripted} (max 1 k) line x fault e in omega arith

step : (limits : Limits) (row : List (List ℕ)) (s : Reading) → Leads (read_rows limits) row s ⊎ Stops (read_rows limits) row s
step limits row s = by_answer (after_row limits row s) refl
  where
    by_answer : (r : Result Reading LineFault) → after_row limits row s ≡ r → Leads (read_rows limits) row s ⊎ Stops (read_rows limits) row s
    by_answer (Ok t) q = inl (t, λ rows k. ap (λ (r : Result Reading LineFault). on_line (suc k) r >>= read_rows limits rows (suc k)) q)
    by_answer (Err x) q = inr (x, λ rows k. ap (λ (r : Result Reading LineFault). on_line (suc k) r >>= read_rows limits rows (suc k)) q)

by_lines : (limits : Limits) → GoesByLines (read_rows limits)
by_lines limits = record {
  end = λ k s line fault e. end k (at_end s.opened s.jobs) line fault e;
  step = step limits;
}

pub fault_is_first : FaultIsFirst
fault_is_first limits text other line fault e low same = first-fault (read_rows limits) (by_lines limits) unread text other line fault e low same
