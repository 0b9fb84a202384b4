use Rattle.spec_script.proofs.Differ.{other-texts, scripts-differ}
use Rattle.spec_script.proofs.scripts_differ.Goals as goal

pub returns : goal.returns
returns c = record { differ = scripts-differ; examples = other-texts }
