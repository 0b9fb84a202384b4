use Rattle.std.proofs.Common.{rules, ◌≡◌, not, ap, ◌∙◌}
use Rattle.mal_filter.specs.Noted.{is_noted}
use Rattle.mal_filter.proofs.Noting.{noted-compared}
use Rattle.mal_filter.proofs.clause_set.ClauseSet.passes_lits.Goals as goal

pub returns : goal.returns
returns c = rw (c.contains.ensures, ← c.self.view_is) (ap not (noted-compared (λ v. v.items) c.args.lits.now c.self.inside.noted.keys))
