-- What a slice does to a node that serves its clauses, and to the lines that are kept.
use Rattle.std.proofs.Common.{◌≡◌, ℕ, Bool, true, false, List, ◌++◌, Contains, length, map, Option, Some, None, refl, sym, ◌∙◌, ap, subst, inr, Result, Ok, Err}
use Rattle.std.specs.Prelude.{All, IfSome, IfOk, MatchResult, is_some, not}
use Rattle.std.specs.Bool.{beq}
use Rattle.mal_base.specs.Literals.{negated}
use Rattle.mal_base.specs.NumberedClause.{Line}
use Rattle.mal_base.specs.declared.verdict.Verdict.TheVariants.{Unsatisfiable}
use Rattle.spec_logic.specs.Refutation.{IsRefutation}
use Rattle.spec_node.specs.State.{Node}
use Rattle.spec_search.specs.Slice.{slice}
use Rattle.spec_search.proofs.ModelLemmas.{slice-leaves}
use Rattle.spec_proof.specs.Log.{IsOrderly, proof_of}
use Rattle.spec_proof.specs.Trimmed.{reached, renumbered}
use Rattle.spec_proof.proofs.LogLemmas.{log-orderly}
use Rattle.mal_proof.specs.Logged.{Logged}
use Rattle.spec_solving.specs.Holding.{Serves, IsRefuted}
use Rattle.spec_solving.specs.Solving.{Answer, IsCore, Promises}
use Rattle.spec_solving.specs.Solving.Answer.{Core}
use Rattle.spec_solving.proofs.ServingLemmas.{slice-serves, slice-refuted}
use Rattle.mal_solving.specs.Loaded.{Loaded, IsLoaded, MayEnter, IsEntered, AreLast, needed_of, lines_kept}

pub slice_assumed : (n : Node) → (slice n).node.assumptions ≡ n.assumptions
slice_assumed n = (slice-leaves n).assumptions

-- the lines of a slice can be put after those that are kept
pub may-enter : (clauses : List (Option (List ℕ))) (log : List Line) (n : Node) (kept : Option (List Line)) (lines : List Line) → Serves clauses log n → IfSome kept (λ (before : List Line). before ≡ log) → lines ≡ (slice n).lines → MayEnter kept lines
may-enter clauses log n None lines serves same taken = tt
may-enter clauses log n (Some before) lines serves same taken =
    subst (λ (ls : List Line). IsOrderly (before ++ ls)) (sym taken) (subst (λ (front : List Line). IsOrderly (front ++ (slice n).lines)) (sym same) (log-orderly clauses (log ++ (slice n).lines) (slice-serves clauses log n serves).covers.derived))

-- what was kept is the log with the slice's lines
entered-same : (log lines : List Line) (kept after : Option (List Line)) → IfSome kept (λ (before : List Line). before ≡ log) → IsEntered kept lines after → IfSome after (λ (now : List Line). now ≡ log ++ lines)
entered-same log lines None after same e = subst (λ (o : Option (List Line)). IfSome o (λ (now : List Line). now ≡ log ++ lines)) (sym e) tt
entered-same log lines (Some before) None same e = tt
entered-same log lines (Some before) (Some now) same e = e ∙ ap (λ (front : List Line). front ++ lines) same

-- a node that ran a slice serves its clauses with the lines that were put after those that are kept
pub slice-loaded : (count : ℕ) (l : Loaded) (ran : Node) (lines : List Line) (after : Option (List Line)) → IsLoaded count l → ran ≡ (slice l.node).node → lines ≡ (slice l.node).lines → IsEntered l.kept lines after → IsLoaded count (record { clauses = l.clauses; node = ran; kept = after })
slice-loaded count l ran lines after i node same e =
    let entered : IsEntered l.kept (slice l.node).lines after = subst (λ (ls : List Line). IsEntered l.kept ls after) same e in
    subst (λ (n : Node). IsLoaded count (record { clauses = l.clauses; node = n; kept = after })) (sym node) (record {
      log = i.log ++ (slice l.node).lines;
      serves = slice-serves l.clauses i.log l.node i.serves;
      counted = i.counted;
      same = entered-same i.log (slice l.node).lines l.kept after i.same entered;
    })

-- where proofs are kept, what is needed of them is needed of the log
needed-same : (goal count : ℕ) (log : List Line) (proving : Bool) (after : Option (List Line)) → is_some after ≡ proving → IfSome after (λ (now : List Line). now ≡ log) → proving ≡ true → needed_of goal count after ≡ renumbered count (reached goal log)
needed-same goal count log proving None there same e = absurd (cc)
needed-same goal count log proving (Some now) there same e = ap (λ (ls : List Line). renumbered count (reached goal ls)) same

-- where a slice refutes, the negations of its last line's literals failed
pub slice-core : (count goal : ℕ) (l : Loaded) (ran : Node) (lines : List Line) (after : Option (List Line)) (lits : List ℕ) → IsLoaded count l → ran ≡ (slice l.node).node → lines ≡ (slice l.node).lines → IsEntered l.kept lines after → is_some after ≡ is_some l.kept → l.node.verdict ≡ None → AreLast lines lits → ran.verdict ≡ Some (Unsatisfiable goal) → IsCore (is_some l.kept) l.clauses l.node.assumptions lits (needed_of goal (length l.clauses) after)
slice-core count goal l ran lines after lits i node same e there calm last v =
    let r : IsRefuted l.clauses l.node.assumptions goal i.log (slice l.node).lines = slice-refuted l.clauses i.log l.node goal i.serves calm (sym (ap (λ (n : Node). n.verdict) node) ∙ v) in
    let failed : lits ≡ map negated r.line.lits = last r.before r.line (same ∙ r.last) in
    let now : IfSome after (λ (all : List Line). all ≡ i.log ++ (slice l.node).lines) = entered-same i.log (slice l.node).lines l.kept after i.same (subst (λ (ls : List Line). IsEntered l.kept ls after) same e) in
    record {
      among = subst (λ (ls : List ℕ). All (Contains l.node.assumptions) ls) (sym failed) r.among;
      cause = inr (
        renumbered (length l.clauses) (reached goal (i.log ++ (slice l.node).lines)),
        (λ q. needed-same goal (length l.clauses) (i.log ++ (slice l.node).lines) (is_some l.kept) after there now q),
        subst (λ (ls : List ℕ). IsRefutation l.clauses ls (proof_of (renumbered (length l.clauses) (reached goal (i.log ++ (slice l.node).lines))))) (sym failed) r.refuted,
      );
    }

-- so what is answered of them is what it promises to be
pub core-promised : {A B : Type 0} (r : Result A B) (items : A → List ℕ) (lines needed : List Line) (proving : Bool) (clauses : List (Option (List ℕ))) (assumed : List ℕ) (a : Answer) → IfOk r (λ l. AreLast lines (items l)) → MatchResult r (λ l. a ≡ Core (items l) needed) (λ e. ⊥) → ((lits : List ℕ) → AreLast lines lits → IsCore proving clauses assumed lits needed) → Promises proving clauses assumed a
core-promised (Ok l) items lines needed proving clauses assumed a last e core = subst (λ (x : Answer). Promises proving clauses assumed x) (sym e) (core (items l) last)
core-promised (Err e) items lines needed proving clauses assumed a last f core = absurd f

-- lines are kept where there is a log
pub kept-is : (log : Option Logged) → is_some (lines_kept log) ≡ is_some log
kept-is None = refl
kept-is (Some l) = refl

pub beq-same : (a b : Bool) → not (beq a b) ≡ false → a ≡ b
beq-same true true e = refl
beq-same true false e = absurd (cc)
beq-same false true e = absurd (cc)
beq-same false false e = refl
