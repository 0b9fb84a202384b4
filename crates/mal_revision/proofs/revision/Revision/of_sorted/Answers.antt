use Rattle.std.proofs.Common.{◌≡◌, Some, None, true}
use Rattle.std.specs.List.{list_all}
use Rattle.mal_base.specs.Clauses.{clash}
use Rattle.mal_base.proofs.Tautologies.{opposite-from_sorted}
use Rattle.mal_base.specs.Formulas.{is_within, is_clause_of}
use Rattle.mal_revision.specs.Refused.{or_else, first_above, above, limit_passed}
use Rattle.mal_revision.proofs.Refusals.{posted-from_tests, made-from_tests, made-shared, consistent-from_tests}
use Rattle.mal_revision.proofs.revision.Revision.of_sorted.Goals as goal

pub returns-in-Some-clause-refused : goal.returns-in-Some-clause-refused
returns-in-Some-clause-refused c =
    let found : clash c.args.sorted.items ≡ Some c.in-Some.var = cc (c.as_slice.ensures.value, c.opposite.ensures, c.in-Some.is) in
    opposite-from_sorted _ _ _ c.requires.same c.requires.rising found

pub returns-in-Some-above_parts-clause-refused : goal.returns-in-Some-above_parts-clause-refused
returns-in-Some-above_parts-clause-refused c =
    let none : clash c.args.sorted.items ≡ None = cc (c.as_slice.ensures.value, c.opposite.ensures, c.in-None.is) in
    record {
      consistent = consistent-from_tests _ _ c.requires.same c.requires.rising none;
      first = cc (c.above_parts.ensures.value, c.in-Some-above_parts.is);
    }

pub returns-in-Some-limit_passed-clause-refused : goal.returns-in-Some-limit_passed-clause-refused
returns-in-Some-limit_passed-clause-refused c =
    let none : clash c.args.sorted.items ≡ None = cc (c.as_slice.ensures.value, c.opposite.ensures, c.in-None.is) in
    record {
      consistent = consistent-from_tests _ _ c.requires.same c.requires.rising none;
      within = cc (c.above_parts.ensures.value, c.in-None-above_parts.is);
      first = cc (c.limit_passed.ensures, c.in-Some-limit_passed.is);
    }

pub shared-requires : goal.shared-requires
shared-requires c =
    let none : clash c.args.sorted.items ≡ None = cc (c.as_slice.ensures.value, c.opposite.ensures, c.in-None.is) in
    let assumed : is_within c.args.variables c.args.assumptions.now ≡ true = c.above_parts.ensures.assumed c.in-None-above_parts.is in
    let forms : list_all (is_clause_of c.args.variables) c.args.clauses ≡ true = c.above_parts.ensures.form c.in-None-above_parts.is in
    let limited : limit_passed c.args.variables c.args.clauses ≡ None = cc (c.limit_passed.ensures, c.in-None-limit_passed.is) in
    posted-from_tests c.args.variables c.args.clauses c.args.assumptions.now c.args.sorted.items c.requires.same c.requires.rising none assumed forms limited

pub returns-in-None-limit_passed-clause-made : goal.returns-in-None-limit_passed-clause-made
returns-in-None-limit_passed-clause-made c =
    let none : clash c.args.sorted.items ≡ None = cc (c.as_slice.ensures.value, c.opposite.ensures, c.in-None.is) in
    let within : or_else (first_above c.args.variables c.args.clauses) (above c.args.variables c.args.assumptions.now) ≡ None = cc (c.above_parts.ensures.value, c.in-None-above_parts.is) in
    let limited : limit_passed c.args.variables c.args.clauses ≡ None = cc (c.limit_passed.ensures, c.in-None-limit_passed.is) in
    made-shared _ _ _ _ _ c.shared.ensures (made-from_tests c.args.variables c.args.clauses c.args.assumptions.now c.args.sorted.items c.requires.same c.requires.rising none within limited)
