use Rattle.std.proofs.Common.{sym, ◌∙◌}
use Rattle.mal_cdcl.proofs.PickLemmas.{unexported}
use Rattle.mal_cdcl.proofs.import_filter.note_if_exported.Goals as goal

pub returns-then-passes_lits : goal.returns-then-passes_lits
returns-then-passes_lits c = λ others exported. unexported c.args.exported.now c.args.lits.now others c.args.seen.now (sym c.passes_lits.ensures ∙ c.if-passes_lits.true) exported
