use Rattle.std.proofs.Common.{◌∙◌, ap}
use Rattle.std.specs.List.{count_by}
use Rattle.mal_script.specs.Counting.{is_revision}
use Rattle.mal_script.proofs.Counted.{revisions-counted}
use Rattle.mal_script.proofs.script.ScriptJob.revision_count.Goals as goal

pub returns : goal.returns
returns c = c.count_revisions.ensures ∙ (ap (count_by is_revision) c.steps.ensures ∙ revisions-counted c.args.self.now.steps)
