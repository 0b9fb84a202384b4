use Rattle.std.proofs.Common.{◌≡◌, ◌∙◌, ℕ, Bool, List, Option, Some, None, refl, sym, subst}
use Rattle.std.specs.Prelude.{length, is_some}
use Rattle.mal_base.specs.NumberedClause.{Line}
use Rattle.mal_base.specs.declared.verdict.Verdict.{Verdict}
use Rattle.mal_base.specs.declared.verdict.Verdict.TheVariants.{Satisfiable, Unsatisfiable}
use Rattle.spec_node.specs.State.{Node}
use Rattle.spec_solving.specs.Solving.{Answer, Promises}
use Rattle.mal_solving.specs.Loaded.{Loaded, needed_of, given_clauses, lines_kept}
use Rattle.mal_solving.proofs.KernelLemmas.{may-enter, slice-loaded, slice-core, core-promised, kept-is, beq-same}
use Rattle.mal_solving.proofs.kernel.Kernel.run.Goals as goal

pub enter-requires : goal.enter-requires
enter-requires c = may-enter (given_clauses c.self.inside.given) c.self.invariant.log c.self.inside.node.state (lines_kept c.self.inside.log) c.in_ok-lines.lines.lines c.self.invariant.serves c.self.invariant.same c.in_ok-lines.ensures.lines

pub invariant_of-self-then-is_some-proving : goal.invariant_of-self-then-is_some-proving
invariant_of-self-then-is_some-proving c = slice-loaded c.self.inside.count (record { clauses = given_clauses c.self.inside.given; node = c.self.inside.node.state; kept = lines_kept c.self.inside.log }) c.run_slice.new.node.state c.in_ok-lines.lines.lines (lines_kept c.enter.new.log) c.self.invariant c.in_ok-lines.ensures.node c.in_ok-lines.ensures.lines c.enter.ensures

pub invariant_of-self-2 : goal.invariant_of-self-2
invariant_of-self-2 c = slice-loaded c.self.inside.count (record { clauses = given_clauses c.self.inside.given; node = c.self.inside.node.state; kept = lines_kept c.self.inside.log }) c.run_slice.new.node.state c.in_ok-lines.lines.lines (lines_kept c.enter.new.log) c.self.invariant c.in_ok-lines.ensures.node c.in_ok-lines.ensures.lines c.enter.ensures

pub returns-in-Ok-clause-promises : goal.returns-in-Ok-clause-promises
returns-in-Ok-clause-promises c = subst (λ (l : Loaded). Promises (is_some l.kept) l.clauses l.node.assumptions c.in-Ok.answer) c.self.view_is (by_verdict ran.verdict refl)
  where
    n : Node
    n = c.self.inside.node.state

    ran : Node
    ran = c.run_slice.new.node.state

    old : Loaded
    old = record { clauses = given_clauses c.self.inside.given; node = n; kept = lines_kept c.self.inside.log }

    after : Option (List Line)
    after = lines_kept c.enter.new.log

    same : c.is_some.result ≡ c.is_some-proving.result
    same = beq-same c.is_some.result c.is_some-proving.result c.if-is_some-proving.false

    there : is_some after ≡ is_some old.kept
    there = kept-is c.enter.new.log ∙ (sym c.is_some.ensures ∙ (same ∙ (c.is_some-proving.ensures ∙ sym (kept-is c.self.inside.log))))

    calm : n.verdict ≡ None
    calm = subst (λ (l : Loaded). l.node.verdict ≡ None) (sym c.self.view_is) c.requires.goes

    by_verdict : (v : Option Verdict) → ran.verdict ≡ v → Promises (is_some old.kept) old.clauses n.assumptions c.in-Ok.answer
    by_verdict None q = subst (λ (a : Answer). Promises (is_some old.kept) old.clauses n.assumptions a) (sym (c.in-Ok.ensures.none q)) tt
    by_verdict (Some Satisfiable) q =
        subst (λ (b : Bool). Promises b old.clauses n.assumptions c.in-Ok.answer) there
        (subst (λ (xs : List ℕ). Promises (is_some after) old.clauses xs c.in-Ok.answer) c.run_slice.ensures.assumed (c.in-Ok.ensures.model q))
    by_verdict (Some (Unsatisfiable goal)) q =
        core-promised c.last_negated-failed.result (λ lits. lits.items) c.in_ok-lines.lines.lines (needed_of goal (length old.clauses) after) (is_some old.kept) old.clauses n.assumptions c.in-Ok.answer c.last_negated-failed.ensures (c.in-Ok.ensures.core goal q)
        (λ lits last. slice-core c.self.inside.count goal old ran c.in_ok-lines.lines.lines after lits c.self.invariant c.in_ok-lines.ensures.node c.in_ok-lines.ensures.lines c.enter.ensures there calm last q)
