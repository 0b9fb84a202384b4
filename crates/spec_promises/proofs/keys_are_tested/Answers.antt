use Rattle.spec_promises.proofs.Examples.{keys_in_json}
use Rattle.spec_promises.proofs.Keyed.{read_is_keyed}
use Rattle.spec_promises.proofs.Keys.{keys_are_tested}
use Rattle.spec_promises.proofs.keys_are_tested.Goals as goal

pub returns-clause-read : goal.returns-clause-read
returns-clause-read c = read_is_keyed

pub returns-clause-tested : goal.returns-clause-tested
returns-clause-tested c = keys_are_tested

pub returns-clause-examples : goal.returns-clause-examples
returns-clause-examples c = keys_in_json
