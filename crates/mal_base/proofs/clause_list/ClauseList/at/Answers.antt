use Rattle.std.proofs.Common.{◌≡◌, false, is_none, get_or, None}
use Rattle.mal_base.proofs.LaidLemmas.{at-within, at-value, at-rising}
use Rattle.mal_base.proofs.clause_list.ClauseList.at.Goals as goal

pub part-requires-clause-within : goal.part-requires-clause-within
part-requires-clause-within c =
    let within = at-within c.self.inside.literals.items c.self.inside.marks.items _ _ c.self.invariant c.self.view_is c.requires in
    rw (c.end_of-end.ensures, c.as_slice.ensures.value) within.1

pub returns-clause-value : goal.returns-clause-value
returns-clause-value c =
    let some : is_none (get_or c.args.self.now c.args.place None) ≡ false = cc (c.is_tautology.ensures, c.if-is_tautology.false) in
    let value = at-value c.self.inside.literals.items c.self.inside.marks.items _ _ c.self.invariant c.self.view_is c.requires some in
    rw (c.part.ensures, c.end_of-end.ensures, c.start_of-start.ensures, c.as_slice.ensures.value) value

pub returns-clause-rising : goal.returns-clause-rising
returns-clause-rising c =
    let rising = at-rising c.self.inside.literals.items c.self.inside.marks.items _ _ c.self.invariant c.self.view_is c.requires in
    rw (c.part.ensures, c.end_of-end.ensures, c.start_of-start.ensures, c.as_slice.ensures.value) rising
