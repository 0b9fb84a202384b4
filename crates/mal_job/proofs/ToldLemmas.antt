-- What a reply tells.
use Rattle.std.proofs.Common.{◌≡◌, ℕ, ◌+◌, ◌-◌, ◌≤◌, List, [], ◌∷◌, length, take, get_or, slice_get, map, Option, Some, refl, sym, ◌∙◌, ap, arith}
use Rattle.std.specs.Option.{option_map_or}
use Rattle.std.proofs.lemmas.Option.{slice_get-get_or}
use Rattle.mal_base.specs.NumberedClause.{Line}
use Rattle.mal_base.specs.Literals.{negated}
use Rattle.mal_revision.specs.Posted.{Posted}
use Rattle.spec_proof.specs.Trimmed.{reached, renumbered}
use Rattle.mal_proof.specs.Goals.{last_lits}
use Rattle.spec_report.specs.Replies.{Proof}
use Rattle.spec_job.specs.Models.{clauses_of}
use Rattle.spec_job.specs.SoloMachine.{clauses_in}
use Rattle.spec_job.proofs.LoadedLemmas.{clauses-length}
use Rattle.spec_job.specs.Proofs.{lits_at, failed, proof_lines}

-- the literals of the last line, or of none
pub last-none : (lines : List Line) → length lines ≡ 0 → [] ≡ last_lits lines
last-none [] e = refl
last-none (x ∷ xs) e = absurd (omega arith)

pub last-some : (lines : List Line) (k : ℕ) (lits : List ℕ) → k + 1 ≡ length lines → ((l : Line) → slice_get lines k ≡ Some l → lits ≡ l.lits) → lits ≡ last_lits lines
last-some lines k lits e a =
    let none : Line = record { id = 0; lits = []; hints = [] } in
    let place : length lines - 1 ≡ k = omega arith in
    let is : slice_get lines k ≡ Some (get_or lines k none) = slice_get-get_or lines k none (omega arith) in
    a (get_or lines k none) is ∙ ap (λ (o : Option Line). option_map_or (λ l. l.lits) o []) (sym (ap (slice_get lines) place ∙ is))

-- what is told of a proof that is numbered after the clauses of the revisions up to this one
pub proof-told : (revisions : List Posted) (log : List Line) (r goal count : ℕ) (lits given : List ℕ) (needed lines : List Line) → 1 ≤ r → lits ≡ lits_at goal log → given ≡ map negated lits → needed ≡ reached goal log → count ≡ clauses_in (take r revisions) → lines ≡ renumbered count needed → Proof given lines ≡ Proof (failed goal log) (proof_lines revisions log (r - 1) goal)
proof-told revisions log r goal count lits given needed lines some a b c d e =
    let next : r ≡ r - 1 + 1 = omega arith in
    let all : count ≡ length (clauses_of (take (r - 1 + 1) revisions)) = d ∙ (sym (clauses-length (take r revisions)) ∙ ap (λ (k : ℕ). length (clauses_of (take k revisions))) next) in
    rw (e, all, c, b, a) refl
