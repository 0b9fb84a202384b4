use Rattle.std.proofs.Common.{◌≡◌, ◌&&◌, ℕ, List, None, map, sym, ap, ◌∙◌}
use Rattle.std.specs.List.{list_all, list_any}
use Rattle.mal_base.specs.Limits.{greatest_variable}
use Rattle.mal_base.specs.Clauses.{clash, rises}
use Rattle.mal_base.specs.Formulas.{is_clause_of, is_within}
use Rattle.serde_json.specs.Data.{Data}
use Rattle.serde_json.specs.View.{view}
use Rattle.spec_dimacs.specs.Merged.{clause_of, sorted}
use Rattle.spec_json.specs.Numbers.{assumptions_in, clauses_in, is_above}
use Rattle.spec_json.specs.Reading.{literals}
use Rattle.spec_json.specs.Shape.{numbers_in, whole_in}
use Rattle.spec_json.proofs.Numbering.{or-none}
use Rattle.mal_json.proofs.Merged.{assumed_form, clauses_form, low_lists, low_one}
use Rattle.mal_json.proofs.steps.Steps.consistent.Goals as goal

pub sorted_literals-requires-clause-bound : goal.sorted_literals-requires-clause-bound
sorted_literals-requires-clause-bound c =
    ap (λ (ds : List Data). list_any (is_above greatest_variable) (map whole_in ds)) c.items_at.ensures
    ∙ low_one c.args.variables (assumptions_in (view c.args.value.now)) c.requires.few (or-none _ _ c.requires.low).1

pub clause_list-requires-clause-bound : goal.clause_list-requires-clause-bound
clause_list-requires-clause-bound c =
    ap (λ (ds : List Data). list_any (list_any (is_above greatest_variable)) (map numbers_in ds)) c.items_at-2.ensures
    ∙ low_lists c.args.variables (clauses_in (view c.args.value.now)) c.requires.few (or-none _ _ c.requires.low).0

pub with_revision-requires-clause-clauses : goal.with_revision-requires-clause-clauses
with_revision-requires-clause-clauses c =
    ap (list_all (is_clause_of c.args.variables)) (c.in_ok-clauses.ensures ∙ ap (λ (ds : List Data). map (λ numbers. clause_of (literals numbers)) (map numbers_in ds)) c.items_at-2.ensures)
    ∙ clauses_form c.args.variables (clauses_in (view c.args.value.now)) (or-none _ _ c.requires.some).0 (or-none _ _ c.requires.low).0

pub with_revision-requires-clause-assumed : goal.with_revision-requires-clause-assumed
with_revision-requires-clause-assumed c =
    let own : c.in_ok-assumptions.assumptions.items ≡ sorted (literals (assumptions_in (view c.args.value.now))) =
    c.in_ok-assumptions.ensures ∙ ap (λ (ds : List Data). sorted (literals (map whole_in ds))) c.items_at.ensures in
    let none : clash (sorted (literals (assumptions_in (view c.args.value.now)))) ≡ None =
    ap clash (sym own ∙ sym c.as_slice.ensures.value) ∙ sym c.opposite.ensures ∙ c.in-None.is in
    ap (λ (lits : List ℕ). rises lits && is_within c.args.variables lits) (c.as_slice-2.ensures.value ∙ own)
    ∙ assumed_form c.args.variables (assumptions_in (view c.args.value.now)) (or-none _ _ c.requires.some).1 (or-none _ _ c.requires.low).1 none
