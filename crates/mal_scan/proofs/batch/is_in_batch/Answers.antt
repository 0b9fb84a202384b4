use Rattle.std.proofs.Common.{ℕ, sym, ◌∙◌}
use Rattle.mal_scan.proofs.BatchLemmas.{in_batch}
use Rattle.mal_scan.proofs.batch.is_in_batch.Goals as goal

pub returns : goal.returns
returns c =
    λ (id : ℕ). rw c.open_count-2.ensures (in_batch c.args.trail.now.entries c.args.count (record { id = id; lits = c.args.lits.now }) c.requires c.if-count-eq0.false (sym c.open_count.ensures ∙ c.if-open_count-ne1.false))
