use Rattle.spec_json.proofs.Reading.{spelled-is-script}
use Rattle.spec_json.proofs.spelled_is_script.Goals as goal

pub returns : goal.returns
returns c = spelled-is-script
