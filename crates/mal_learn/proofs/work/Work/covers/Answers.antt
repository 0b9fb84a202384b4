use Rattle.std.proofs.Common.{ℕ, List, ◌<◌, ◌≤◌, arith}
use Rattle.std.proofs.lemmas.List.Elements.{All-weaker}
use Rattle.mal_base.specs.Literals.{var_of}
use Rattle.mal_learn.specs.Shown.{AreWithin}
use Rattle.mal_learn.proofs.WalkLemmas.{lits-within}
use Rattle.mal_learn.proofs.work.Work.covers.Goals as goal

wider : (m n : ℕ) (lits : List ℕ) → m ≤ n → AreWithin m lits → AreWithin n lits
wider m n lits l h = All-weaker (λ x. var_of x < m) (λ x. var_of x < n) (λ x k. omega arith) lits h

pub are_marked-requires-clause-seen : goal.are_marked-requires-clause-seen
are_marked-requires-clause-seen g c = wider c.self.inside.room _ c.in-Some.lits.now c.self.invariant.seen_fits (lits-within c.self.inside.room c.args.id (g.C.ClauseView.clauses c.args.clauses.now) c.in-Some.lits.now (rw (← c.self.view_is) at c.requires.within) c.in-Some.ensures)

pub are_marked-requires-clause-base : goal.are_marked-requires-clause-base
are_marked-requires-clause-base g c = wider c.self.inside.room _ c.in-Some.lits.now (rw (← c.self.view_is) at c.requires.fits) (lits-within c.self.inside.room c.args.id (g.C.ClauseView.clauses c.args.clauses.now) c.in-Some.lits.now (rw (← c.self.view_is) at c.requires.within) c.in-Some.ensures)
