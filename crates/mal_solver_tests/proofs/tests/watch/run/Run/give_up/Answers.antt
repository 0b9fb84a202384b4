use Rattle.std.proofs.Common.{◌≡◌, ℕ, Bool, true, false, ◌&&◌, cond, List, [], ◌∷◌, refl}
use Rattle.std.specs.Prelude.{filter, not, ◌==◌}
use Rattle.std.specs.List.{list_any}
use Rattle.std.proofs.lemmas.Bool.{false≢true}
use Rattle.mal_base.specs.Formulas.{is_within}
use Rattle.mal_base.specs.NumberedClause.{NumberedClause}
use Rattle.mal_trail.specs.Rooms.{are_within}
use Rattle.mal_solver_tests.proofs.tests.watch.run.Run.give_up.Goals as goal

-- fewer clauses are of the same variables
within-fewer : (room : ℕ) (test : NumberedClause → Bool) (cs : List NumberedClause) → are_within room cs ≡ true → are_within room (filter test cs) ≡ true
within-fewer room test [] h = refl
within-fewer room test (c ∷ cs) h = by_first (within-fewer room test cs) (is_within room c.lits) refl h
  where
    by_first : (are_within room cs ≡ true → are_within room (filter test cs) ≡ true) → (b : Bool) → is_within room c.lits ≡ b → (b && are_within room cs) ≡ true → are_within room (filter test (c ∷ cs)) ≡ true
    by_first f true e k = by_test (test c) (f k)
      where
        by_test : (t : Bool) → are_within room (filter test cs) ≡ true → are_within room (cond t (c ∷ filter test cs) (filter test cs)) ≡ true
        by_test true l = rw e l
        by_test false l = l
    by_first f false e k = absurd (false≢true k)

pub invariant_of-self : goal.invariant_of-self
invariant_of-self g c =
    let n = c.self.inside in
    let within = within-fewer n.trail.room (λ d. not (list_any (λ i. i == d.id) c.args.ids.now)) (g.E.ClauseView.clauses n.engine) c.self.invariant.1 in
    (c.self.invariant.0, rw c.forget.ensures.clauses within, c.forget.ensures.fits n.trail.entries n.trail.processed c.self.invariant.2)
