use Rattle.std.proofs.Common.{rules, ◌≡◌, ◌||◌, ℕ, List, map, bytes_eq}
use Rattle.mal_filter.specs.Noted.{is_noted}
use Rattle.mal_filter.proofs.Noting.{noted-inserted}
use Rattle.mal_filter.proofs.clause_set.ClauseSet.note_lits.Goals as goal

pub returns-clause-noted : goal.returns-clause-noted
returns-clause-noted c = λ others.
    let own : c.in_ok-lits.lits.items ≡ c.args.lits.now = search rules in
    rw (c.in_ok-insert.ensures.keys, ← c.self.view_is, ← own) (noted-inserted (λ v. v.items) others c.self.inside.noted.keys c.in_ok-lits.lits)
