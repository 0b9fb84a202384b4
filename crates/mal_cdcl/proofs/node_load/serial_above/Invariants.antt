use Rattle.std.proofs.Common.{◌≡◌, drop}
use Rattle.spec_node.specs.Import.{serial_above}
use Rattle.mal_cdcl.proofs.node_load.serial_above.Given as goal

abbrev pub invariant-loop-entry : goal.invariant-loop-entry
invariant-loop-entry l = serial_above l.above (drop l.entry-index l.exported) ≡ serial_above l.serial l.exported
