use Rattle.std.proofs.Common.{◌∙◌}
use Rattle.std.proofs.lemmas.Result.{on_ok_weaker}
use Rattle.mal_parts.proofs.Headings.{heading-first, heading-second, heading-third, heading-whole}
use Rattle.mal_parts.proofs.heading.write_first_line.Goals as goal

pub returns-in_err-write_all-clause-prefix : goal.returns-in_err-write_all-clause-prefix
returns-in_err-write_all-clause-prefix g c = heading-first c.args.workers _ _ c.write_all.ensures.prefix

pub returns-in_err-write_all-2-clause-prefix : goal.returns-in_err-write_all-2-clause-prefix
returns-in_err-write_all-2-clause-prefix g c = heading-second c.args.workers _ _ _ _ (c.as_bytes.ensures.value ∙ c.format.ensures.text) c.in_ok-write_all.ensures.all c.write_all-2.ensures.prefix

pub returns-clause-prefix : goal.returns-clause-prefix
returns-clause-prefix g c = heading-third c.args.workers _ _ _ _ (c.as_bytes.ensures.value ∙ c.format.ensures.text) c.in_ok-write_all.ensures.all _ c.in_ok-write_all-2.ensures.all c.write_all-3.ensures.prefix

pub returns-clause-all : goal.returns-clause-all
returns-clause-all g c = on_ok_weaker c.write_all-3.result (heading-whole c.args.workers _ _ _ _ (c.as_bytes.ensures.value ∙ c.format.ensures.text) c.in_ok-write_all.ensures.all _ c.in_ok-write_all-2.ensures.all) c.write_all-3.ensures.all
