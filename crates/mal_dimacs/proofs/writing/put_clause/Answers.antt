use Rattle.std.proofs.Common.{◌≡◌, get_or, None}
use Rattle.std.proofs.lemmas.Option.{get_or_from_slice_get}
use Rattle.mal_dimacs.proofs.Texts.{tautology_written}
use Rattle.mal_dimacs.proofs.writing.put_clause.Goals as goal

pub returns-in_ok-put_line-in-None-clause-written : goal.returns-in_ok-put_line-in-None-clause-written
returns-in_ok-put_line-in-None-clause-written c =
    let none : get_or c.args.clauses.now c.args.place None ≡ None = get_or_from_slice_get c.args.clauses.now c.args.place _ None (rw c.in-None.is at c.at.ensures.value) in
    tautology_written c.args.out.now.items c.put_line.new.out.items _ none c.in_ok-put_line-in-None.ensures.written
