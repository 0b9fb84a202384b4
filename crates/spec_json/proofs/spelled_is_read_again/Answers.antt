use Rattle.spec_json.proofs.Reading.{spelled-is-read-again}
use Rattle.spec_json.proofs.spelled_is_read_again.Goals as goal

pub returns : goal.returns
returns c = spelled-is-read-again
