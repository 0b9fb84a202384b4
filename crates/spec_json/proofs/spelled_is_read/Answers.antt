use Rattle.spec_json.proofs.Reading.{spelled-is-read}
use Rattle.spec_json.proofs.spelled_is_read.Goals as goal

pub returns : goal.returns
returns c = spelled-is-read
